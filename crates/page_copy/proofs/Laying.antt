-- Bytes laid one by one from the start of a buffer.
use Prim.Native.Nat.{ℕ, min, ◌+◌, ◌<◌}
use mathlib.Core.Path.{◌≡◌, refl, ap, ◌∙◌}
use mathlib.Core.List.{List}
use native.Mathlib.Omega.{arith}
use native.Mathlib.Nat.{zero-add}
use lib.ListN.{length, take, get_or, set, length-set}
use lib.Seq.{sets, take_all}
use Rattle.base.specs.Overlay.{Wrote}
use Rattle.base.proofs.Overlay.{sets_cut, sets_next}
use Rattle.base.proofs.Test.{Test, test, below, above}

pub next_laid : (old page out : List ℕ) (i : ℕ) → (length out ≡ length old) × (out ≡ sets old 0 (take i page)) → i < length page
    → (length (set out i (get_or page i 0)) ≡ length old) × (set out i (get_or page i 0) ≡ sets old 0 (take (i + 1) page))
next_laid old page out i q h =
    let next : set (sets old 0 (take i page)) i (get_or page i 0) ≡ sets old 0 (take (i + 1) page) = rw zero-add at (sets_next old 0 i page (get_or page i 0) h refl) in
    (rw length-set q.0, ap (λ (l : List ℕ). set l i (get_or page i 0)) q.1 ∙ next)

-- the part of a page that fits is all that is laid of it
pub part_laid : (old page : List ℕ) (n : ℕ) → n ≡ min (length page) (length old) → sets old 0 (take n page) ≡ sets old 0 page
part_laid old page n e = go (test (length page) (length old))
  where
    go : Test (length page) (length old) → sets old 0 (take n page) ≡ sets old 0 page
    go (below l) = ap (sets old 0) (take_all n page (omega arith))
    go (above l) = sets_cut old 0 n page (omega arith) (omega arith)

-- a page's bytes, laid whole
pub wrote_page : (old page bytes new : List ℕ) → page ≡ bytes → new ≡ sets old 0 page → Wrote old 0 bytes (length page) new
wrote_page old page bytes new e f = record { place = omega (arith, ap length e); bytes = f ∙ ap (sets old 0) e }
