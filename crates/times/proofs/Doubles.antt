-- A time below 2^63 loses nothing as two doubles.
use Rattle.std.specs.Prelude.{if◌then◌else◌}
use mathlib.Core.Path.{◌≡◌, refl}
use mathlib.Core.Bool.{Bool, true, false}
use Prim.Native.Nat.{ℕ, ◌/◌, ◌%◌, ◌^◌, ◌≤◌, ◌<◌}
use native.Mathlib.Omega.{arith}
use lib.Dec.{T, le→leb, eqb, leb}
use lib.IntN.{pos}
use lib.Ieee.{in_float, of_int, binary64}
use lib.Ieee.Back.{round_whole}
use borrow.Author.Tests.{leb-false}
use Rattle.base.specs.declared.Refusal.{Refusal}
use Rattle.base.specs.declared.Refusal.TheVariants.{TimeZero, TimeTooLarge}
use Rattle.varint.specs.Reader as reader
use Rattle.words.specs.Words.{little}
use Rattle.sheet.specs.Sheet.{Sheet}
use Rattle.walk.specs.Walk.{world_of}
use Rattle.case.specs.Case.{Case, check_of, by_check}
use Rattle.reading.specs.Bytes.{Bytes, bytes, bytes_of}
use Rattle.reading.specs.Bytes as reading
use Rattle.times.specs.Time.{Ticks, ticks, refused, judged, ticks_in, ticks_at}
use Rattle.times.specs.Call.{double, time_read, Exactly, ExactTime}

pub castable : (n : ℕ) → n ≤ 2 ^ 53 → T (in_float binary64 (pos n))
unfolding in_float
castable n h = le→leb n (2 ^ 53) h

exactly : (n : ℕ) → n ≤ 2 ^ 53 → Exactly (double n) n
unfolding of_int
exactly n h = round_whole binary64 false n h

abbrev ExactAnswer : Ticks → Type 0
ExactAnswer t = ExactTime t (time_read t).time

exact_ticks : (t : ℕ) → t < 2 ^ 63 → ExactAnswer (ticks t)
exact_ticks t h = record {
  seconds = t / 10000000;
  rest = t % 10000000;
  seconds_exact = exactly (t / 10000000) (omega arith);
  rest_exact = exactly (t % 10000000) (omega arith);
  rest_below = omega arith;
  sum = omega arith;
}

exact_refusal : (r : Refusal) → ExactAnswer (refused r)
exact_refusal r = (exactly 0 (omega arith), exactly 0 (omega arith))

exact_judged : (t : ℕ) → ExactAnswer (judged t)
exact_judged t = go (eqb t 0) (leb (2 ^ 63) t) refl
  where
    go : (none large : Bool) → leb (2 ^ 63) t ≡ large → ExactAnswer (if none then refused TimeZero else if large then refused TimeTooLarge else ticks t)
    go true large e = exact_refusal TimeZero
    go false true e = exact_refusal TimeTooLarge
    go false false e = exact_ticks t (leb-false (2 ^ 63) t e)

exact_bytes : (b : Bytes) → ExactAnswer (ticks_in b)
exact_bytes (bytes xs z) = exact_judged (little xs)
exact_bytes (reading.refused r) = exact_refusal r

-- whatever the answer is, its two numbers are exact
pub exact_answer : (c : Case) (a : ℕ) → ExactAnswer (ticks_at c a)
unfolding ticks_at
exact_answer c a = go (check_of c)
  where
    go : (d : reader.Read Sheet) → ExactAnswer (by_check c (λ f. refused f.refusal) (λ w. ticks_in (bytes_of 8 w a)) d)
    go (reader.got s at) = exact_bytes (bytes_of 8 (world_of s c.image c.pagefile) a)
    go (reader.refused f) = exact_refusal f.refusal
