-- The sum one page further.
use Rattle.std.proofs.Common.{◌≡◌, ℕ, suc, ◌+◌, ◌-◌, ◌%◌, ◌^◌, ◌<◌, ◌≤◌, arith}
use Rattle.walk.specs.Walk.{World}
use Rattle.bench_walk.specs.Bench.{walked_offset, walked_sum}

-- the sum so far, and the sum of the pages left from address a on, are the whole sum
pub record SumTo (w : World) (start pages sum a left : ℕ) : Type 0 where
  pub small : sum < 2 ^ 64
  pub whole : (sum + walked_sum left w a) % 2 ^ 64 ≡ walked_sum pages w start % 2 ^ 64

pub sum_none : (w : World) (start pages : ℕ) → SumTo w start pages 0 start (pages - 0)
sum_none w start pages =
    let all : pages - 0 ≡ pages = omega arith in
    record { small = omega arith; whole = rw all (omega arith) }

pub sum_next : (w : World) (start pages sum a i o : ℕ) → SumTo w start pages sum a (pages - i) → i < pages → o ≡ walked_offset w a
    → SumTo w start pages ((sum + o) % 2 ^ 64) ((a + 4096) % 2 ^ 64) (pages - (i + 1))
unfolding walked_sum
sum_next w start pages sum a i o q h e =
    let left : pages - i ≡ suc (pages - (i + 1)) = omega arith in
    let whole : (sum + (o + walked_sum (pages - (i + 1)) w ((a + 4096) % 2 ^ 64))) % 2 ^ 64 ≡ walked_sum pages w start % 2 ^ 64 = rw e (rw left at q.whole) in
    record { small = omega arith; whole = omega (arith, whole) }

pub sum_all : (w : World) (start pages sum a i : ℕ) → SumTo w start pages sum a (pages - i) → pages ≤ i → sum ≡ walked_sum pages w start % 2 ^ 64
unfolding walked_sum
sum_all w start pages sum a i q h =
    let none : pages - i ≡ 0 = omega arith in
    let whole : (sum + 0) % 2 ^ 64 ≡ walked_sum pages w start % 2 ^ 64 = rw none at q.whole in
    omega (arith, whole, q.small)
