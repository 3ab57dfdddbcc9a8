-- Bytes laid over a buffer one after another.
use mathlib.Core.Path.{◌≡◌, sym, ap, ◌∙◌}
use mathlib.Core.List.{List, [], ◌∷◌, ◌++◌, append_assoc}
use Prim.Native.Nat.{ℕ, ◌+◌, ◌-◌, ◌^◌, ◌<◌, ◌≤◌}
use Rattle.std.proofs.Common.{drop-drop}
use Rattle.std.proofs.Math.Nat.{add-sub_cancel_left}
use native.Mathlib.Omega.{arith}
use lib.ListN.{length, take, drop, set, length-append}
use lib.Seq.{sets, sets-eq, take_all, take-append-le, length-take-le}
use Rattle.base.proofs.Overlay.{sets_append}
use Rattle.std.specs.Fmt.{decimal}
use Rattle.std.proofs.lemmas.Fmt.{length-decimal-le}
use Rattle.base.specs.Overlay.{Wrote}
use Rattle.base.proofs.Overlay.{wrote_then}
use Rattle.case.specs.declared.Answer.{Answer}
use Rattle.address.specs.Line.{decimal_of, field_of, space, newline, line_of, LineAt}
use Rattle.address_lines.proofs.Decimal.{same_decimal}

-- ---- copying

-- a text over the part of a buffer from `at` on that is as long
pub copied : (old text new : List ℕ) (at : ℕ) → at + length text ≤ length old → new ≡ text → take at old ++ (new ++ drop (at + length text - at) (drop at old)) ≡ sets old at text
copied old text new at h e = rw (e, add-sub_cancel_left, drop-drop (length text) at old, sets-eq text old at h, append_assoc)

-- ---- a number and the byte after it

module _ (n : ℕ) (fits : n < 2 ^ 64) (text : List ℕ) (spelt : text ≡ decimal n) where
  pub few_digits : length text ≤ 20
  few_digits = rw spelt (length-decimal-le 20 n (omega arith) (omega arith) fits)

  pub field_laid : (old new : List ℕ) (at last : ℕ) → new ≡ sets old at text → Wrote old at (field_of n last) (at + length text + 1) (set new (at + length text) last)
  field_laid old new at last e =
      let same : text ≡ decimal_of n = spelt ∙ same_decimal n fits in
      record {
        place = rw (length-append, ← same) (omega arith);
        bytes = rw (sets_append old at (decimal_of n) (last ∷ []), ← same, e);
      }

-- ---- three of them

pub line_laid : (a : Answer) (old : List ℕ) (p q r : ℕ) (o₁ o₂ new : List ℕ) → Wrote old 0 (field_of a.number space) p o₁ → Wrote o₁ p (field_of a.offset space) q o₂ → Wrote o₂ q (field_of a.entries newline) r new → r ≤ length old → LineAt (line_of a) old r new
unfolding line_of
line_laid a old p q r o₁ o₂ new x y z h =
    let w : Wrote old 0 (line_of a) r new = wrote_then (wrote_then x y) z in
    record {
      count = omega (arith, w.place);
      bytes = w.bytes ∙ sets-eq (line_of a) old 0 (omega (arith, w.place)) ∙ ap (λ (k : ℕ). line_of a ++ drop k old) (sym w.place);
    }

module _ (line old : List ℕ) (r : ℕ) (new : List ℕ) (q : LineAt line old r new) where
  pub line_within : r ≤ length new
  line_within = rw (q.bytes, length-append) (omega (arith, q.count))

  pub line_counts : r ≡ length (take r new)
  line_counts = sym (length-take-le r new line_within)

  pub line_taken : take r new ≡ line
  line_taken = rw q.bytes (take-append-le r line (drop r old) (omega (arith, q.count)) ∙ take_all r line (omega (arith, q.count)))
