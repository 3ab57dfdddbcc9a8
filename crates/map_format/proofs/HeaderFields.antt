-- What a header that was read keeps to.
use mathlib.Core.Path.{◌≡◌}
use mathlib.Core.List.{List}
use mathlib.Core.Bool.{Bool, true, false}
use Prim.Native.Nat.{ℕ, ◌+◌, ◌^◌, ◌≤◌}
use native.Mathlib.Omega.{arith}
use lib.Dec.{leb, ltb}
use borrow.Author.Tests.{leb-true}
use Rattle.std.specs.Prelude.{if◌then◌else◌}
use Rattle.base.specs.Notation.{within}
use Rattle.base.proofs.Test.{both_true}
use Rattle.base.specs.declared.Refusal.TheVariants.{OutOfLimits}
use Rattle.entry.specs.Pages.{virtual_page}
use Rattle.entry.specs.declared.VirtualPage.{VirtualPage}
use Rattle.varint.specs.Reader.{got, return}
use Rattle.varint.specs.Edition.{edition_fields}
use Rattle.varint.proofs.Reader.{came, held, returned}
use Rattle.map_format.specs.Reading.{in_half, header_fields}
use Rattle.map_format.specs.declared.Header.{Header}
use Rattle.map_format.proofs.Steps.{header_of, after_edition}

pub record Range (start : VirtualPage) (count : ℕ) : Type 0 where
  pub some : 1 ≤ count
  pub most : count ≤ 2 ^ 20
  pub top : start.0 + count ≤ 2 ^ 36

pub in_half_lem : (start : VirtualPage) (count : ℕ) → in_half start count ≡ true → Range start count
in_half_lem start count h =
    let t = both_true (within 1 (2 ^ 20) count) (if ltb start.0 (2 ^ 35) then leb (start.0 + count) (2 ^ 35) else leb (start.0 + count) (2 ^ 36)) h in
    let w = both_true (leb 1 count) (leb count (2 ^ 20)) t.0 in
    record { some = leb-true 1 count w.0; most = leb-true count (2 ^ 20) w.1; top = top (ltb start.0 (2 ^ 35)) t.1 }
  where
    top : (b : Bool) → (if b then leb (start.0 + count) (2 ^ 35) else leb (start.0 + count) (2 ^ 36)) ≡ true → start.0 + count ≤ 2 ^ 36
    top true e = omega (arith, leb-true (start.0 + count) (2 ^ 35) e)
    top false e = leb-true (start.0 + count) (2 ^ 36) e

pub header_range : (s : List ℕ) (at : ℕ) (h : Header) (next : ℕ) → header_fields s at ≡ got h next → Range h.start h.count
unfolding header_fields
header_range s at h next e =
    let c = came s after_edition (edition_fields s at) h next e in
    let f = c.value in
    let t = held s (λ x. return (header_of f)) (in_half (virtual_page f.first) f.second) OutOfLimits c.at h next c.rest in
    let same = (returned (header_of f) h c.at next t.1).0 in
    rw (← same) (in_half_lem (virtual_page f.first) f.second t.0)
