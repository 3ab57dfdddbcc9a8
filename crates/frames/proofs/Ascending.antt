-- Runs that ascend and lie apart: the search by halving in their rows finds what the search run by run finds.
use Rattle.std.specs.Prelude.{Some, None}
use mathlib.Core.Path.{◌≡◌, refl, sym, ap}
use mathlib.Core.List.{List, [], ◌∷◌}
use Prim.Native.Nat.{ℕ, zero, suc, ◌+◌, ◌*◌, ◌-◌, ◌/◌, ◌≤◌, ◌<◌}
use native.Mathlib.Omega.{arith}
use lib.ListN.{length, get_or}
use borrow.Author.Tests.{lt-ltb, le-ltb, le-leb, lt-leb}
use Rattle.base.proofs.Test.{Test, below, above, test}
use Rattle.entry.specs.declared.Frame.{Frame}
use Rattle.sheet.specs.Sheet.{end_of}
use Rattle.sheet.specs.Call.{rows_from}
use Rattle.sheet.specs.declared.Run.{Run}
use Rattle.sheet.proofs.AcceptedCase.{Chain}
use Rattle.frames.specs.Search.{first_at, end_at, skipped_at, behind, search_in}
use Rattle.frames.specs.Runs.{page_from}

-- ---- the rows of the runs

module _ (a b c : ℕ) (rows : List ℕ) (i : ℕ) where
  three_on : (k : ℕ) → get_or (a ∷ b ∷ c ∷ rows) (3 * suc i + k) 0 ≡ get_or rows (3 * i + k) 0
  three_on k = let e : 3 * suc i + k ≡ suc (suc (suc (3 * i + k))) = omega arith in rw e

  next_first : first_at (a ∷ b ∷ c ∷ rows) (suc i) ≡ first_at rows i
  next_first = let e : 3 * suc i ≡ suc (suc (suc (3 * i))) = omega arith in rw e

  next_end : end_at (a ∷ b ∷ c ∷ rows) (suc i) ≡ end_at rows i
  next_end = three_on 1

  next_skipped : skipped_at (a ∷ b ∷ c ∷ rows) (suc i) ≡ skipped_at rows i
  next_skipped = three_on 2

-- a run has a frame, and lies after `end`
later : (rs : List Run) (base least end i : ℕ) → Chain least end rs → i < length rs
    → (end + least ≤ first_at (rows_from base rs) i) × (first_at (rows_from base rs) i < end_at (rows_from base rs) i)
later [] base least end i c h = absurd (omega arith)
later (r ∷ rs) base least end zero c h = (c.0.apart, omega (arith, c.0.some))
later (r ∷ rs) base least end (suc i) c h =
    let q = later rs (base + r.pages) 1 (end_of r) i c.1 (omega arith) in
    rw (next_first, next_end) (omega (arith, q.0, c.0.apart, c.0.some), q.1)

firsts_rise : (rs : List Run) (base least end i j : ℕ) → Chain least end rs → i ≤ j → j < length rs → first_at (rows_from base rs) i ≤ first_at (rows_from base rs) j
firsts_rise [] base least end i j c l h = absurd (omega arith)
firsts_rise (r ∷ rs) base least end zero zero c l h = omega arith
firsts_rise (r ∷ rs) base least end zero (suc j) c l h = rw next_first (omega (arith, (later rs (base + r.pages) 1 (end_of r) j c.1 (omega arith)).0))
firsts_rise (r ∷ rs) base least end (suc i) zero c l h = absurd (omega arith)
firsts_rise (r ∷ rs) base least end (suc i) (suc j) c l h =
    rw (next_first _ _ _ _ i, next_first _ _ _ _ j) (firsts_rise rs (base + r.pages) 1 (end_of r) i j c.1 (omega arith) (omega arith))

ends_rise : (rs : List Run) (base least end i j : ℕ) → Chain least end rs → i ≤ j → j < length rs → end_at (rows_from base rs) i ≤ end_at (rows_from base rs) j
ends_rise [] base least end i j c l h = absurd (omega arith)
ends_rise (r ∷ rs) base least end zero zero c l h = omega arith
ends_rise (r ∷ rs) base least end zero (suc j) c l h =
    let q = later rs (base + r.pages) 1 (end_of r) j c.1 (omega arith) in
    rw next_end (omega (arith, q.0, q.1))
ends_rise (r ∷ rs) base least end (suc i) zero c l h = absurd (omega arith)
ends_rise (r ∷ rs) base least end (suc i) (suc j) c l h =
    rw (next_end _ _ _ _ i, next_end _ _ _ _ j) (ends_rise rs (base + r.pages) 1 (end_of r) i j c.1 (omega arith) (omega arith))

-- ---- the search run by run

-- in run i
hit : (rs : List Run) (base least end i : ℕ) (f : Frame) → base ≤ end → Chain least end rs → i < length rs
    → first_at (rows_from base rs) i ≤ f.0 → f.0 < end_at (rows_from base rs) i → page_from base rs f ≡ Some (f.0 - skipped_at (rows_from base rs) i)
hit [] base least end i f b c h x y = absurd (omega arith)
hit (r ∷ rs) base least end zero f b c h x y =
    rw (le-leb r.first.0 f.0 x, lt-ltb f.0 (end_of r) y) (ap Some (omega (arith, c.0.apart)))
hit (r ∷ rs) base least end (suc i) f b c h x y =
    let x' : first_at (rows_from (base + r.pages) rs) i ≤ f.0 = rw next_first at x in
    let y' : f.0 < end_at (rows_from (base + r.pages) rs) i = rw next_end at y in
    let q = later rs (base + r.pages) 1 (end_of r) i c.1 (omega arith) in
    rw (le-leb r.first.0 f.0 (omega (arith, q.0)), le-ltb f.0 (end_of r) (omega (arith, q.0)), next_skipped)
    (hit rs (base + r.pages) 1 (end_of r) i f (omega (arith, c.0.apart)) c.1 (omega arith) x' y')

-- in none: after the runs before run n, and before the others
none : (rs : List Run) (base n : ℕ) (f : Frame) → ((j : ℕ) → j < n → end_at (rows_from base rs) j ≤ f.0)
    → ((j : ℕ) → n ≤ j → j < length rs → f.0 < first_at (rows_from base rs) j) → page_from base rs f ≡ None
none [] base n f x y = refl
none (r ∷ rs) base zero f x y =
    rw (lt-leb r.first.0 f.0 (y 0 (omega arith) (omega arith)))
    (none rs (base + r.pages) 0 f (λ j h. absurd (omega arith)) (λ j h l. rw next_first at (y (suc j) (omega arith) (omega arith))))
none (r ∷ rs) base (suc n) f x y =
    let h : end_of r ≤ f.0 = x 0 (omega arith) in
    rw (le-leb r.first.0 f.0 (omega arith), le-ltb f.0 (end_of r) h)
    (none rs (base + r.pages) n f (λ j l. rw next_end at (x (suc j) (omega arith))) (λ j l m. rw next_first at (y (suc j) (omega arith) (omega arith))))

-- ---- the search by halving

module _ (rs : List Run) (base least end : ℕ) (f : Frame) (b : base ≤ end) (c : Chain least end rs) where
  abbrev rows : List ℕ
  rows = rows_from base rs

  -- the frame lies after every run before run n, and before every run from run n on
  abbrev After : ℕ → Type 0
  After n = (j : ℕ) → j < n → end_at rows j ≤ f.0

  abbrev Before : ℕ → Type 0
  Before n = (j : ℕ) → n ≤ j → j < length rs → f.0 < first_at rows j

  pub halved : (k low n : ℕ) → n ≤ k → low + n ≤ length rs → After low → Before (low + n) → (search_in k rows low n f).page ≡ page_from base rs f
  unfolding search_in
  halved zero low n h l x y = sym (none rs base low f x (λ j m. y j (omega arith)))
  halved (suc k) low zero h l x y = sym (none rs base low f x (λ j m. y j (omega arith)))
  halved (suc k) low (suc n) h l x y =
      go (test f.0 (first_at rows middle)) (test f.0 (end_at rows middle))
      (λ y'. halved k low (suc n / 2) (omega arith) (omega arith) x y')
      (λ x'. halved k (middle + 1) (behind (suc n)) (omega arith) (omega arith) x' (λ j m. y j (omega arith)))
    where
      middle : ℕ
      middle = low + suc n / 2

      go : Test f.0 (first_at rows middle) → Test f.0 (end_at rows middle)
          → (Before middle → (search_in k rows low (suc n / 2) f).page ≡ page_from base rs f)
          → (After (middle + 1) → (search_in k rows (middle + 1) (behind (suc n)) f).page ≡ page_from base rs f)
          → (search_in (suc k) rows low (suc n) f).page ≡ page_from base rs f
      go (below u) t before behind = rw (lt-ltb _ _ u) (before (λ j m l. omega (arith, firsts_rise rs base least end middle j c m l)))
      go (above u) (below v) before behind = rw (le-ltb _ _ u, lt-ltb _ _ v) (sym (hit rs base least end middle f b c (omega arith) u v))
      go (above u) (above v) before behind = rw (le-ltb _ _ u, le-ltb _ _ v) (behind (λ j m. omega (arith, ends_rise rs base least end j middle c (omega arith) (omega arith))))
