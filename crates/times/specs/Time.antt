-- 02, order 13: the time in the 8 bytes at an address.
use Rattle.std.specs.Prelude.{ℕ, ◌^◌, eqb, leb, if◌then◌else◌}
use Rattle.base.specs.declared.Refusal.{Refusal}
use Rattle.base.specs.declared.Refusal.TheVariants.{TimeZero, TimeTooLarge}
use Rattle.words.specs.Words.{little}
use Rattle.case.specs.Case.{Case, in_case}
use Rattle.reading.specs.Bytes.{Bytes, bytes, bytes_of}
use Rattle.reading.specs.Bytes as reading

-- ticks of 100 nanoseconds since 1 January 1601 UTC, or a refusal
pub data Ticks : Type 0 where
  ticks : ℕ → Ticks
  refused : Refusal → Ticks

-- 60, then 61
abbrev pub judged : ℕ → Ticks
judged t =
    if eqb t 0 then refused TimeZero else
    if leb (2 ^ 63) t then refused TimeTooLarge else
    ticks t

-- lowest byte first
abbrev pub ticks_in : Bytes → Ticks
ticks_in (bytes xs z) = judged (little xs)
ticks_in (reading.refused r) = refused r

-- the sheet, by its number alone, then the bytes, then the time in them
unfoldable pub ticks_at : Case → ℕ → Ticks
ticks_at c a = in_case c (λ f. refused f.refusal) λ w. ticks_in (bytes_of 8 w a)
