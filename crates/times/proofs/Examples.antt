-- The times that 02 names, the edges of 60 and 61, and fields at the end of a page, in which another reading would answer otherwise.
use mathlib.Core.Path.{refl}
use mathlib.Core.Bool.{true, false}
use mathlib.Core.List.{List, [], ◌∷◌, ◌++◌}
use Prim.Native.Nat.{ℕ, ◌-◌, ◌^◌}
use lib.ListN.{replicate}
use lib.Ieee.{binary64, of_int, to_bits}
use Rattle.base.specs.Example.{Example, same, Hold}
use Rattle.base.specs.declared.Refusal.TheVariants.{NotCanonical, RegionNeeded, TimeZero}
use Rattle.varint.specs.Groups.{decode, number}
use Rattle.varint.specs.Edition.{edition, edition_fields}
use Rattle.words.specs.Words.{little, little_at}
use Rattle.entry.specs.Pages.{frame}
use Rattle.entry.specs.Addresses.{reachable, reachable_in}
use Rattle.entry.specs.Entry.{level_of, leaf_of, leaf_in, upper_of}
use Rattle.sheet.specs.Sheet.{space_at, header, own_fields, sheet_fields, sheet_of}
use Rattle.walk.specs.Walk.{World, world_of, frame_in, settle_of, descend_of, resolve_of}
use Rattle.case.specs.Case.{case_of}
use Rattle.reading.specs.Bytes.{bytes, bytes_of}
use Rattle.times.specs.Time.{Ticks, ticks, refused, judged, ticks_in, ticks_at}
use Rattle.times.specs.Call.{double, no_time, time_read}
use Rattle.times.specs.declared.TimeRead.{TimeRead}

abbrev answer : ℕ → ℕ → TimeRead
answer seconds rest = record { number = 0; time = record { seconds = double seconds; ticks = double rest } }

-- where 1970 starts
abbrev start1970 : List ℕ
start1970 = 0x00 ∷ 0x80 ∷ 0x3E ∷ 0xD5 ∷ 0xDE ∷ 0xB1 ∷ 0x9D ∷ 0x01 ∷ []

pub times : List Example
times =
    same (little start1970) 116444736000000000
    ∷ same (time_read (ticks_in (bytes start1970 false))) (answer 11644473600 0)
    -- the least time and the greatest
    ∷ same (time_read (judged 1)) (answer 0 1)
    ∷ same (time_read (judged (2 ^ 63 - 1))) (answer 922337203685 4775807)
    -- zero, from a page of zeros or not, and the least that is too large
    ∷ same (time_read (ticks_in (bytes (replicate 8 0) true))) (no_time 60)
    ∷ same (time_read (ticks_in (bytes (replicate 8 0) false))) (no_time 60)
    ∷ same (time_read (judged (2 ^ 63))) (no_time 61)
    ∷ []

pub times_hold : Hold times
unfolding times
times_hold = (refl, (refl, (refl, (refl, (refl, (refl, (refl, tt)))))))

-- a page that is its own table at every level, with its second entry and its last
paged : List ℕ → List ℕ → World
paged second last =
    world_of
    (record { space = space_at 0; runs = record { first = frame 0; pages = 1 } ∷ [] })
    ((1 ∷ replicate 7 0) ++ (second ++ (replicate 4072 0 ++ last)))
    []

abbrev time_at : World → ℕ → Ticks
time_at w a = ticks_in (bytes_of 8 w a)

-- the second page is the first one again, a page of zeros, or refused
pub fields : List Example
fields =
    same (time_at (paged (1 ∷ replicate 7 0) start1970) 0xFF8) (ticks 116444736000000000)
    ∷ same (time_at (paged (1 ∷ replicate 7 0) start1970) 0xFFC) (ticks (little (0xDE ∷ 0xB1 ∷ 0x9D ∷ 0x01 ∷ 0x01 ∷ [])))
    ∷ same (time_at (paged (0x80 ∷ replicate 7 0) start1970) 0xFFC) (ticks (little (0xDE ∷ 0xB1 ∷ 0x9D ∷ 0x01 ∷ [])))
    ∷ same (time_at (paged (0x80 ∷ replicate 7 0) start1970) 0x1000) (refused TimeZero)
    ∷ same (time_at (paged (replicate 8 0) start1970) 0xFFC) (refused RegionNeeded)
    -- the last 8 bytes of the address space, and past the top
    ∷ same (time_at (paged (replicate 8 0) (1 ∷ replicate 7 0)) 0xFFFFFFFFFFFFFFF8) (ticks 1)
    ∷ same (time_at (paged (replicate 8 0) (1 ∷ replicate 7 0)) 0xFFFFFFFFFFFFFFF9) (refused NotCanonical)
    ∷ []

pub fields_hold : Hold fields
unfolding fields paged level_of leaf_of leaf_in upper_of frame_in settle_of resolve_of reachable reachable_in descend_of little_at bytes_of
fields_hold = (refl, (refl, (refl, (refl, (refl, (refl, (refl, tt)))))))

-- the sheet's fault comes before the address
pub orders : List Example
orders = same (time_read (ticks_at (case_of [] [] []) 0x0000800000000000)) (no_time 10) ∷ []

pub orders_hold : Hold orders
unfolding orders ticks_at sheet_of sheet_fields own_fields header edition_fields edition number decode
orders_hold = (refl, tt)

-- the doubles as their 64 bits: 0 is +0.0
pub doubles : List Example
doubles =
    same (to_bits binary64 (double 0)) 0
    ∷ same (to_bits binary64 (double 1)) 0x3FF0000000000000
    ∷ same (to_bits binary64 (double 11644473600)) 0x4205B08488000000
    ∷ same (to_bits binary64 (double 922337203685)) 0x426AD7F29ABCA000
    ∷ same (to_bits binary64 (double 4775807)) 0x415237DFC0000000
    ∷ []

pub doubles_hold : Hold doubles
unfolding doubles of_int to_bits
doubles_hold = (refl, (refl, (refl, (refl, (refl, tt)))))
