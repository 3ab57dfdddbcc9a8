-- The rules of an extent, test by test.
use mathlib.Core.Path.{◌≡◌, refl}
use mathlib.Core.Bool.{Bool, true, false, not, ◌&&◌, ◌||◌}
use Prim.Native.Nat.{ℕ, ◌+◌, ◌^◌, ◌≤◌}
use native.Mathlib.Omega.{arith}
use lib.Dec.{ltb}
use borrow.Author.Tests.{lt-ltb, le-leb}
use Rattle.base.specs.Codes.{is_code}
use Rattle.map_format.specs.Extents.{has_file_page, joins}
use Rattle.map_format.specs.Reading.{sound}
use Rattle.map_format.specs.declared.Extent.{Extent}
use Rattle.map_format.specs.Inner.{FieldsInLimits}

-- an extent that keeps the rules by itself
pub record KeepsRules (e : Extent) : Type 0 where
  pub code : is_code e.code ≡ true
  pub some : 1 ≤ e.pages
  pub top : e.first + e.pages ≤ 2 ^ 36
  pub fields : FieldsInLimits e

or_true : (b : Bool) → (b || true) ≡ true
or_true true = refl
or_true false = refl

module _ (left : ℕ) (prev e : Extent) where
  pub apart : 1 ≤ e.pages → e.pages ≤ left → e.first + e.pages ≤ 2 ^ 36 → sound left prev e ≡ not (ltb 0 prev.pages && joins prev e.code e.first)
  unfolding sound
  apart h₁ h₂ h₃ = rw (lt-ltb 0 e.pages (omega arith), le-leb e.pages left h₂, le-leb (e.first + e.pages) (2 ^ 36) h₃, or_true (not (has_file_page e.code)))
