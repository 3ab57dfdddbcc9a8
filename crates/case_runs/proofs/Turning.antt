-- Rows turned in place, one after the other: those done, then those left as they were lent.
use mathlib.Core.Path.{◌≡◌, refl, sym, ap, ◌∙◌}
use mathlib.Core.List.{List, [], ◌∷◌, ◌++◌, append_assoc, append-nil}
use Prim.Native.Nat.{ℕ, ◌+◌, ◌-◌, ◌<◌, ◌≤◌}
use native.Mathlib.Nat.{zero-add, suc-add}
use native.Mathlib.Omega.{arith}
use lib.ListN.{length, set, get_or, length-set, length-append}
use lib.Seq.{get_or_at, get_or-append-add}
use Rattle.case_runs.specs.Inner.{RowsInOrder, runs_of_rows}

pub record Turning (old rows : List ℕ) (at : ℕ) : Type 0 where
  pub done : List ℕ
  pub left : List ℕ
  pub place : length done ≡ at
  pub halves : rows ≡ done ++ left
  pub order : RowsInOrder left
  pub long : length rows ≡ length old
  pub whole : done ++ runs_of_rows left ≡ runs_of_rows old

pub starts : (rows : List ℕ) → RowsInOrder rows → Turning rows rows 0
starts rows h = record { done = []; left = rows; place = refl; halves = refl; order = h; long = refl; whole = refl }

-- the row at a place, whole, since the rows left are
pub record Row (old rows : List ℕ) (at : ℕ) : Type 0 where
  pub done : List ℕ
  pub first : ℕ
  pub end : ℕ
  pub skipped : ℕ
  pub left : List ℕ
  pub place : length done ≡ at
  pub halves : rows ≡ done ++ first ∷ end ∷ skipped ∷ left
  pub rising : first ≤ end
  pub fewer : skipped ≤ first
  pub order : RowsInOrder left
  pub long : length rows ≡ length old
  pub whole : done ++ first ∷ (end - first) ∷ (first - skipped) ∷ runs_of_rows left ≡ runs_of_rows old

pub row : {old rows : List ℕ} {at : ℕ} → Turning old rows at → at < length rows → Row old rows at
row {old} {rows} {at} q h = go q.left q.halves q.order q.whole
  where
    go : (left : List ℕ) → rows ≡ q.done ++ left → RowsInOrder left → q.done ++ runs_of_rows left ≡ runs_of_rows old → Row old rows at
    go [] e o w = absurd (omega (arith, h, q.place, ap length (e ∙ append-nil q.done)))
    go (first ∷ []) e o w = absurd o
    go (first ∷ end ∷ []) e o w = absurd o
    go (first ∷ end ∷ skipped ∷ left) e o w = record {
      done = q.done;
      first = first;
      end = end;
      skipped = skipped;
      left = left;
      place = q.place;
      halves = e;
      rising = o.0;
      fewer = o.1.0;
      order = o.1.1;
      long = q.long;
      whole = w;
    }

set_after : (xs ys : List ℕ) (n a : ℕ) → set (xs ++ ys) (length xs + n) a ≡ xs ++ set ys n a
set_after [] ys n a = ap (λ (k : ℕ). set ys k a) (zero-add n)
set_after (x ∷ xs) ys n a = ap (λ (k : ℕ). set (x ∷ (xs ++ ys)) k a) (suc-add (length xs) n) ∙ ap (λ (r : List ℕ). x ∷ r) (set_after xs ys n a)

module _ {old rows : List ℕ} {at : ℕ} (q : Row old rows at) where
  abbrev numbers : List ℕ
  numbers = q.first ∷ q.end ∷ q.skipped ∷ q.left

  pub inside : at + 2 < length rows
  inside = omega (arith, q.place, ap length q.halves, length-append q.done numbers)

  pub first_read : get_or rows at 0 ≡ q.first
  first_read = rw q.halves (get_or_at q.done q.first (q.end ∷ q.skipped ∷ q.left) 0 at q.place)

  pub end_read : get_or rows (at + 1) 0 ≡ q.end
  end_read = rw (q.halves, ← q.place) (get_or-append-add q.done numbers 1 0)

  pub skipped_read : get_or rows (at + 2) 0 ≡ q.skipped
  skipped_read = rw (q.halves, ← q.place) (get_or-append-add q.done numbers 2 0)

  stored : (pages page : ℕ) → set (set rows (at + 1) pages) (at + 2) page ≡ q.done ++ q.first ∷ pages ∷ page ∷ q.left
  stored pages page = rw (q.halves, ← q.place, set_after q.done numbers 1 pages) (set_after q.done (q.first ∷ pages ∷ q.skipped ∷ q.left) 2 page)

  pub turned : (pages page : ℕ) → pages ≡ q.end - q.first → page ≡ q.first - q.skipped → Turning old (set (set rows (at + 1) pages) (at + 2) page) (at + 3)
  turned pages page e f = record {
    done = q.done ++ q.first ∷ pages ∷ page ∷ [];
    left = q.left;
    place = omega (arith, q.place, length-append q.done (q.first ∷ pages ∷ page ∷ []));
    halves = stored pages page ∙ sym (append_assoc q.done (q.first ∷ pages ∷ page ∷ []) q.left);
    order = q.order;
    long = rw (length-set, length-set) q.long;
    whole = append_assoc q.done (q.first ∷ pages ∷ page ∷ []) (runs_of_rows q.left) ∙ rw (e, f) q.whole;
  }

pub ended : {old rows : List ℕ} {at : ℕ} → Turning old rows at → length rows ≤ at → rows ≡ runs_of_rows old
ended {old} {rows} {at} q h = go q.left q.halves q.whole
  where
    go : (left : List ℕ) → rows ≡ q.done ++ left → q.done ++ runs_of_rows left ≡ runs_of_rows old → rows ≡ runs_of_rows old
    go [] e w = e ∙ w
    go (x ∷ left) e w = absurd (omega (arith, h, q.place, ap length e, length-append q.done (x ∷ left)))
