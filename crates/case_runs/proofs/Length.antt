-- The length that a sheet asks of its image, step by step; and how it goes with the check of a case.
use Rattle.std.specs.Prelude.{if◌then◌else◌}
use mathlib.Core.Path.{◌≡◌, refl, sym, ◌∙◌}
use mathlib.Core.Logic.{inl, inr}
use mathlib.Core.List.{List}
use mathlib.Core.Bool.{Bool, true, false, not}
use Prim.Native.Nat.{ℕ, ◌*◌, ◌%◌}
use native.Mathlib.Omega.{arith}
use lib.Dec.{eqb}
use borrow.Author.Tests.{eqb-false}
use Rattle.base.specs.Refusal.{refusal_number}
use Rattle.base.specs.Written.{fault_written}
use Rattle.base.specs.declared.Fault.{Fault}
use Rattle.base.specs.declared.Written.{Written}
use Rattle.varint.specs.Reader.{Read, got, refused}
use Rattle.sheet.specs.Sheet.{run_pages, Sheet, own_fields, sheet_fields, sheet_of}
use Rattle.sheet.specs.declared.Header.{Header}
use Rattle.sheet.proofs.WholeSheet.{FieldsFound}
use Rattle.case_runs.specs.Call.{image_bytes, image_length_of}
use Rattle.case_runs.proofs.Faults.{Own, OwnFault, own_faults}

pub no_length : (s : List ℕ) (r : Fault) → own_fields s 0 ≡ refused r → (w : Written) → w ≡ fault_written r → w ≡ image_length_of s
unfolding image_length_of image_bytes
no_length s r e w g = rw (e, g)

pub asked : (s old : List ℕ) (h : Header) (pages : ℕ) (new : List ℕ) → FieldsFound (own_fields s 0) old h pages new → record { number = 0; length = 4096 * pages } ≡ image_length_of s
unfolding image_length_of image_bytes
asked s old h pages new q = rw (q.field, q.total)

-- ---- the check of a case, by the length that its sheet asks for

abbrev pub sheet_number : Read Sheet → ℕ
sheet_number (got t at) = 0
sheet_number (refused f) = refusal_number f.refusal

-- the sheet's own fault; 15 exactly if the image has another length; then 16
abbrev pub by_length : ℕ → ℕ → Read ℕ → ℕ
by_length image pagefile (refused f) = refusal_number f.refusal
by_length image pagefile (got n at) = if not (eqb image n) then 15 else if not (eqb (pagefile % 4096) 0) then 16 else 0

module _ (s : List ℕ) (image pagefile : ℕ) where
  abbrev Agrees : Type 0
  Agrees = sheet_number (sheet_of s image pagefile) ≡ by_length image pagefile (image_bytes s 0)

  module _ (sheet : Sheet) (at : ℕ) (e : own_fields s 0 ≡ got sheet at) where
    at_lengths : (a b : Bool) → eqb image (4096 * run_pages sheet.runs) ≡ a → eqb (pagefile % 4096) 0 ≡ b → Agrees
    unfolding sheet_of sheet_fields image_bytes
    at_lengths true true x y = rw (e, x, y)
    at_lengths true false x y = rw (e, x, y)
    at_lengths false b x y = rw (e, x)

  at_fields : (d : Read Sheet) → own_fields s 0 ≡ d → Agrees
  unfolding sheet_of sheet_fields image_bytes
  at_fields (got sheet at) e = at_lengths sheet at e (eqb image (4096 * run_pages sheet.runs)) (eqb (pagefile % 4096) 0) refl refl
  at_fields (refused r) e = rw e

  pub case_by_length : sheet_number (sheet_of s image pagefile) ≡ by_length image pagefile (image_bytes s 0)
  case_by_length = at_fields (own_fields s 0) refl

-- for 15 there is a length that the sheet asks for, and the image has another
pub record AsksAnother (s : List ℕ) (image : ℕ) : Type 0 where
  pub bytes : ℕ
  pub at : ℕ
  pub asked : image_bytes s 0 ≡ got bytes at
  pub other : image ≡ bytes → ⊥

pub fifteen : (s : List ℕ) (image pagefile : ℕ) → sheet_number (sheet_of s image pagefile) ≡ 15 → AsksAnother s image
fifteen s image pagefile e = go (image_bytes s 0) refl (own_faults s 0) (sym (case_by_length s image pagefile) ∙ e)
  where
    two : (b : Bool) → ◌≡◌ {A = ℕ} (if not b then 16 else 0) 15 → ⊥
    two true g = omega (arith, g)
    two false g = omega (arith, g)

    at_length : (n at : ℕ) (a : Bool) → image_bytes s 0 ≡ got n at → eqb image n ≡ a
        → ◌≡◌ {A = ℕ} (if not a then 15 else if not (eqb (pagefile % 4096) 0) then 16 else 0) 15 → AsksAnother s image
    at_length n at true f x g = absurd (two (eqb (pagefile % 4096) 0) g)
    at_length n at false f x g = record { bytes = n; at = at; asked = f; other = eqb-false image n x }

    apart : {n : ℕ} → Own n → n ≡ 15 → ⊥
    apart (inl h) g = omega (arith, h, g)
    apart (inr h) g = omega (arith, h, g)

    go : (d : Read ℕ) → image_bytes s 0 ≡ d → OwnFault d → by_length image pagefile d ≡ 15 → AsksAnother s image
    go (got n at) f h g = at_length n at (eqb image n) f refl g
    go (refused r) f h g = absurd (apart h g)
