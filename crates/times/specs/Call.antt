-- What the time call hands back.
use Rattle.std.specs.Prelude.{ℕ, ◌+◌, ◌*◌, ◌/◌, ◌%◌, ◌<◌, ◌≡◌, false, pos, Float, Result, Ok, Err}
use Rattle.std.specs.Float.{binary64}
use Rattle.std.specs.Float.Ieee.{of_int}
use Rattle.std.specs.Float.Ieee.Exact.{HasValue}
use Rattle.base.specs.Refusal.{refusal_number}
use Rattle.base.specs.declared.Refusal.{Refusal}
use Rattle.case.specs.Case.{Case}
use Rattle.case.specs.Answer.{GroundedAt}
use Rattle.times.specs.Time.{Ticks, ticks, refused, ticks_at}
use Rattle.times.specs.declared.Time.{Time}
use Rattle.times.specs.declared.TimeRead.{TimeRead}

abbrev pub double : ℕ → Float
double n = of_int binary64 (pos n)

-- whole seconds, and the ticks left over
abbrev pub time_of : ℕ → Time
time_of t = record { seconds = double (t / 10000000); ticks = double (t % 10000000) }

-- a refusal has both numbers 0
abbrev pub no_time : ℕ → TimeRead
no_time n = record { number = n; time = record { seconds = double 0; ticks = double 0 } }

abbrev pub time_read : Ticks → TimeRead
time_read (ticks t) = record { number = 0; time = time_of t }
time_read (refused r) = no_time (refusal_number r)

-- the same before it is made an answer
abbrev pub time_told : Ticks → Result Time Refusal
time_told (ticks t) = Ok (time_of t)
time_told (refused r) = Err r

-- x is the whole number n, not rounded, with a clear sign
abbrev pub Exactly : Float → ℕ → Type 0
Exactly x n = HasValue x false n 1

-- both are whole numbers: seconds times 10,000,000 plus the rest is the time
pub record Exact (t : ℕ) (time : Time) : Type 0 where
  pub seconds : ℕ
  pub rest : ℕ
  pub seconds_exact : Exactly time.seconds seconds
  pub rest_exact : Exactly time.ticks rest
  pub rest_below : rest < 10000000
  pub sum : seconds * 10000000 + rest ≡ t

abbrev pub ExactTime : Ticks → Time → Type 0
ExactTime (ticks t) time = Exact t time
ExactTime (refused r) time = Exactly time.seconds 0 × Exactly time.ticks 0

-- the answer, that its numbers are exact, and that the walk of each byte rests on what the files hold
pub record TimeAnswer (c : Case) (a : ℕ) (r : TimeRead) : Type 0 where
  pub same : r ≡ time_read (ticks_at c a)
  pub exact : ExactTime (ticks_at c a) r.time
  pub grounded : (k : ℕ) → GroundedAt c (a + k)
