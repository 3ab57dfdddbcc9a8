-- The search by halving: what a look leaves, and how many looks it takes.
use Rattle.std.specs.Prelude.{if◌then◌else◌, Option, Some, None}
use mathlib.Core.Path.{◌≡◌, refl, sym, ap, ◌∙◌}
use mathlib.Core.List.{List}
use mathlib.Core.Bool.{Bool, true, false}
use Prim.Native.Nat.{ℕ, zero, suc, ◌+◌, ◌-◌, ◌*◌, ◌/◌, ◌≤◌, ◌<◌}
use native.Mathlib.Omega.{arith}
use native.Mathlib.Numerals.{unary_clauses}
use lib.Dec.{ltb}
use lib.ListN.{length, get_or}
use borrow.Author.Tests.{lt-ltb, le-ltb}
use Rattle.entry.specs.Pages.{frame}
use Rattle.entry.specs.declared.Frame.{Frame}
use Rattle.frames.specs.Search.{first_at, end_at, skipped_at, searched, after, behind, search_in, search_from, search_of, halvings_in, halvings}
use Rattle.frames.specs.declared.Search.{Search}

-- ---- a look leaves the rows before the middle one or those behind it

-- n / 2 lie before it: neither is more than half, rounded down
pub half_left : (n : ℕ) → 0 < n → behind n ≤ n / 2
half_left n s = omega arith

-- as many looks as there are rows in question are enough
enough : (rows : List ℕ) (f : Frame) (j k low n : ℕ) → n ≤ j → n ≤ k → search_in j rows low n f ≡ search_in k rows low n f
unfolding search_in
enough rows f zero zero low n a b = refl
enough rows f zero (suc k) low zero a b = refl
enough rows f zero (suc k) low (suc n) a b = absurd (omega arith)
enough rows f (suc j) zero low zero a b = refl
enough rows f (suc j) zero low (suc n) a b = absurd (omega arith)
enough rows f (suc j) (suc k) low zero a b = refl
enough rows f (suc j) (suc k) low (suc n) a b =
    let before = enough rows f j k low (suc n / 2) (omega arith) (omega arith) in
    rw (before, enough rows f j k (low + suc n / 2 + 1) (behind (suc n)) (omega arith) (omega arith))

pub look : (rows : List ℕ) (f : Frame) (low n : ℕ) → 0 < n → search_from rows low n f ≡ after 1 (
    if ltb f.0 (first_at rows (low + n / 2)) then search_from rows low (n / 2) f else
    if ltb f.0 (end_at rows (low + n / 2)) then searched (Some (f.0 - skipped_at rows (low + n / 2))) 0 else
    search_from rows (low + n / 2 + 1) (behind n) f)
unfolding search_in
look rows f low zero s = absurd (omega arith)
look rows f low (suc n) s =
    let before = enough rows f n (suc n / 2) low (suc n / 2) (omega arith) (omega arith) in
    rw (before, enough rows f n (behind (suc n)) (low + suc n / 2 + 1) (behind (suc n)) (omega arith) (omega arith))

-- ---- how many looks

pub halvings_none : halvings 0 ≡ 0
unfolding halvings_in
halvings_none = refl

halvings_enough : (j k n : ℕ) → n ≤ j → n ≤ k → halvings_in j n ≡ halvings_in k n
unfolding halvings_in
halvings_enough zero zero n a b = refl
halvings_enough zero (suc k) zero a b = refl
halvings_enough zero (suc k) (suc n) a b = absurd (omega arith)
halvings_enough (suc j) zero zero a b = refl
halvings_enough (suc j) zero (suc n) a b = absurd (omega arith)
halvings_enough (suc j) (suc k) zero a b = refl
halvings_enough (suc j) (suc k) (suc n) a b = ap suc (halvings_enough j k (suc n / 2) (omega arith) (omega arith))

pub halvings_more : (n : ℕ) → 0 < n → halvings n ≡ suc (halvings (n / 2))
unfolding halvings_in
halvings_more zero s = absurd (omega arith)
halvings_more (suc n) s = ap suc (halvings_enough n (suc n / 2) (suc n / 2) (omega arith) (omega arith))

halvings_rise : (k m n : ℕ) → m ≤ n → halvings_in k m ≤ halvings_in k n
unfolding halvings_in
halvings_rise zero m n h = omega arith
halvings_rise (suc k) zero n h = omega arith
halvings_rise (suc k) (suc m) zero h = absurd (omega arith)
halvings_rise (suc k) (suc m) (suc n) h = omega (arith, halvings_rise k (suc m / 2) (suc n / 2) (omega arith))

one_more : (b c : Bool) (p : Option ℕ) (s t : Search) (m : ℕ) → s.looks ≤ m → t.looks ≤ m → (after 1 (if b then s else if c then searched p 0 else t)).looks ≤ suc m
one_more true c p s t m h₁ h₂ = omega arith
one_more false true p s t m h₁ h₂ = omega arith
one_more false false p s t m h₁ h₂ = omega arith

few_in : (rows : List ℕ) (f : Frame) (k low n : ℕ) → (search_in k rows low n f).looks ≤ halvings_in k n
unfolding search_in halvings_in
few_in rows f zero low n = omega arith
few_in rows f (suc k) low zero = omega arith
few_in rows f (suc k) low (suc n) =
    let middle = low + suc n / 2 in
    one_more
    (ltb f.0 (first_at rows middle))
    (ltb f.0 (end_at rows middle))
    (Some (f.0 - skipped_at rows middle))
    (search_in k rows low (suc n / 2) f)
    (search_in k rows (middle + 1) (behind (suc n)) f)
    (halvings_in k (suc n / 2))
    (few_in rows f k low (suc n / 2))
    (omega (arith, few_in rows f k (middle + 1) (behind (suc n)), halvings_rise k (behind (suc n)) (suc n / 2) (half_left (suc n) (omega arith))))

pub few_looks : (rows : List ℕ) (f : Frame) → (search_of rows f).looks ≤ halvings (length rows / 3)
few_looks rows f = few_in rows f (length rows / 3) 0 (length rows / 3)

-- six for 32 runs, ten for 1,000, one for one
pub six_looks : halvings 32 ≡ 6
unfolding halvings_in
six_looks = refl

pub ten_looks : halvings 1000 ≡ 10
unfolding halvings_in
ten_looks = refl

pub one_look : halvings 1 ≡ 1
unfolding halvings_in
one_look = refl

-- ---- the loop: `left` rows from row `first` on are in question, after `looks` looks

pub record Going (rows : List ℕ) (f : Frame) (low left looks : ℕ) : Type 0 where
  pub first : ℕ
  pub at : low ≡ 3 * first
  pub inside : first + left ≤ length rows / 3
  pub fits : looks + left ≤ length rows
  pub same : search_of rows f ≡ after looks (search_from rows first left f)

no_looks : (s : Search) → after 0 s ≡ s
no_looks s = ap (λ (k : ℕ). searched s.page k) (omega arith)

looks_more : (looks : ℕ) (s : Search) → after looks (after 1 s) ≡ after (looks + 1) s
looks_more looks s = ap (λ (k : ℕ). searched s.page k) (omega arith)

pub starts : (rows : List ℕ) (f : Frame) → Going rows f 0 (length rows / 3) 0
starts rows f = record { first = 0; at = omega arith; inside = omega arith; fits = omega arith; same = sym (no_looks _) }

module _ {rows : List ℕ} {f : Frame} {low left looks : ℕ} (q : Going rows f low left looks) where
  -- the middle row, where a look is taken
  module _ (some : 0 < left) (row : ℕ) (e : row ≡ low + 3 * (left / 2)) where
    middle : row ≡ 3 * (q.first + left / 2)
    middle = omega (arith, q.at)

    looked : (s : Search) → search_from rows q.first left f ≡ after 1 s → search_of rows f ≡ after (looks + 1) s
    looked s h = q.same ∙ ap (after looks) h ∙ looks_more looks s

    pub goes_before : f.0 < get_or rows row 0 → Going rows f low (left / 2) (looks + 1)
    goes_before h =
        record {
          first = q.first;
          at = q.at;
          inside = omega (arith, q.inside);
          fits = omega (arith, q.fits);
          same = looked _ (rw (look rows f q.first left some, ← middle, lt-ltb _ _ h));
        }

    pub goes_behind : get_or rows row 0 ≤ f.0 → get_or rows (row + 1) 0 ≤ f.0 → Going rows f (row + 3) ((left - 1) / 2) (looks + 1)
    goes_behind h₁ h₂ =
        let same_left : (left - 1) / 2 ≡ behind left = omega arith in
        record {
          first = q.first + left / 2 + 1;
          at = omega (arith, middle);
          inside = omega (arith, q.inside);
          fits = omega (arith, q.fits);
          same = rw same_left (looked _ (rw (look rows f q.first left some, ← middle, le-ltb _ _ h₁, le-ltb _ _ h₂)));
        }

    pub found : get_or rows row 0 ≤ f.0 → f.0 < get_or rows (row + 1) 0 → search_of rows f ≡ searched (Some (f.0 - get_or rows (row + 2) 0)) (looks + 1)
    found h₁ h₂ =
        looked (searched (Some (f.0 - get_or rows (row + 2) 0)) 0) (rw (look rows f q.first left some, ← middle, le-ltb _ _ h₁, lt-ltb _ _ h₂)) ∙ simp unary_clauses

  pub not_found : left ≡ 0 → search_of rows f ≡ searched None looks
  unfolding search_in
  not_found h = q.same ∙ simp (h, unary_clauses)

-- what the loop found of the frame's number is what the search says of the frame, with few looks
pub answered : (rows : List ℕ) (n : ℕ) (f : Frame) (r : Search) → n ≡ f.0 → search_of rows (frame n) ≡ r → (r ≡ search_of rows f) × (r.looks ≤ halvings (length rows / 3))
answered rows n f r e h = (same, rw (← same) at (few_looks rows f))
  where
    same : r ≡ search_of rows f
    same = sym h ∙ ap (λ (k : ℕ). search_of rows (frame k)) e
