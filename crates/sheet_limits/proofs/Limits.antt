-- What lists within the limits keep to, and that what keeps to all but the last is judged by it.
use mathlib.Core.Path.{◌≡◌}
use mathlib.Core.Bool.{true, and-true}
use mathlib.Core.List.{List, [], ◌∷◌}
use Prim.Native.Nat.{ℕ, zero, suc, ◌^◌, ◌<◌, ◌≤◌}
use native.Mathlib.Omega.{arith}
use lib.Dec.{ltb, leb, eqb}
use lib.ListN.{length, get_or}
use borrow.Author.Tests.{lt-ltb, le-leb, eq-eqb, ltb-true, leb-true, eqb-true}
use Rattle.base.proofs.Test.{both_true}
use Rattle.sheet_limits.specs.Write.{all_below, is_mode, in_limits}
use Rattle.sheet_limits.specs.Inner.{Given}

-- ---- numbers below 2^36

pub below_at : (ns : List ℕ) (i : ℕ) → all_below ns ≡ true → i < length ns → get_or ns i 0 < 2 ^ 36
below_at [] i b h = absurd (omega arith)
below_at (n ∷ ns) zero b h = ltb-true n (2 ^ 36) (both_true (ltb n (2 ^ 36)) (all_below ns) b).0
below_at (n ∷ ns) (suc i) b h = below_at ns i (both_true (ltb n (2 ^ 36)) (all_below ns) b).1 (omega arith)

-- ---- all limits

module _ (directory mode place : ℕ) (starts lengths : List ℕ) where
  pub but_lengths : length starts ≡ length lengths → 1 ≤ length starts → length starts ≤ 1000 → directory < 2 ^ 36 → is_mode mode place ≡ true → all_below starts ≡ true
      → all_below lengths ≡ in_limits directory mode place starts lengths
  unfolding in_limits
  but_lengths e s m d i b =
      rw (eq-eqb (length starts) (length lengths) e, le-leb 1 (length starts) s, le-leb (length starts) 1000 m, lt-ltb directory (2 ^ 36) d, i, b, and-true)

  pub in_mode : in_limits directory mode place starts lengths ≡ true → is_mode mode place ≡ true
  unfolding in_limits
  in_mode h = (both_true (is_mode mode place) _ h).0

  pub limits : in_limits directory mode place starts lengths ≡ true → (directory < 2 ^ 36) × Given starts lengths
  unfolding in_limits
  limits h =
      let p = both_true (all_below (directory ∷ starts)) _ (both_true (is_mode mode place) _ h).1 in
      let q = both_true (ltb directory (2 ^ 36)) (all_below starts) p.0 in
      let l = both_true (all_below lengths) _ p.1 in
      let n = both_true (eqb (length starts) (length lengths)) _ l.1 in
      let w = both_true (leb 1 (length starts)) (leb (length starts) 1000) n.1 in (
        ltb-true directory (2 ^ 36) q.0,
        record {
          some = leb-true 1 (length starts) w.0;
          most = leb-true (length starts) 1000 w.1;
          alike = eqb-true (length starts) (length lengths) n.0;
          starts_below = q.1;
          lengths_below = l.0;
        },
      )
