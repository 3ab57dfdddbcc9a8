-- P1 of 01 from its two ranges, and named inputs at which a wrong call would answer otherwise.
use mathlib.Core.Path.{refl}
use mathlib.Core.List.{List, [], ◌∷◌, map}
use Prim.Native.Nat.{ℕ, zero, suc, ◌-◌, ◌/◌, ◌^◌}
use lib.ListN.{replicate}
use Rattle.base.specs.Example.{Example, same, Hold}
use Rattle.base.specs.Written.{WriteOutcome, unwritten}
use Rattle.base.specs.declared.Refusal.TheVariants.{SheetBufferShort}
use Rattle.varint.specs.Groups.{encode}
use Rattle.sheet_limits.specs.Write.{in_limits, joined_before, header_bytes, run_bytes, sheet_bytes}
use Rattle.sheet_writer.specs.Call.{write_sheet}

-- ---- P1: 0x1000 for 0x9E000 bytes, 0x100000 for 0x3FEF0000 bytes

pages : List ℕ → List ℕ
pages bytes = map (λ (n : ℕ). n / 4096) bytes

p1_call : List ℕ → WriteOutcome
p1_call out = write_sheet (0x187000 / 4096) 0 0 (pages (0x1000 ∷ 0x100000 ∷ [])) (pages (0x9E000 ∷ 0x3FEF0000 ∷ [])) out

-- with a byte of room left over, which stays; with room for the sheet alone; with a byte too few
pub p1 : List Example
p1 =
    same (p1_call (replicate 12 0xAA))
    (record {
      answer = record { number = 0; length = 11 };
      buffer = 0x01 ∷ 0x87 ∷ 0x03 ∷ 0x02 ∷ 0x01 ∷ 0x9E ∷ 0x01 ∷ 0x61 ∷ 0xF0 ∷ 0xFD ∷ 0x0F ∷ 0xAA ∷ [];
    })
    ∷ same (p1_call (replicate 11 0xAA)).answer.number 0
    ∷ same (p1_call (replicate 10 0xAA)) (unwritten (replicate 10 0xAA) SheetBufferShort)
    ∷ []

pub p1_holds : Hold p1
unfolding p1 p1_call pages write_sheet in_limits joined_before sheet_bytes header_bytes run_bytes encode
p1_holds = (refl, (refl, (refl, tt)))

-- ---- other inputs

-- the number, with a buffer of this length, and the bytes
number : ℕ → List ℕ → List ℕ → ℕ → ℕ
number directory starts lengths room = (write_sheet directory 0 0 starts lengths (replicate room 0)).answer.number

bytes : ℕ → List ℕ → List ℕ → ℕ → List ℕ
bytes directory starts lengths room = (write_sheet directory 0 0 starts lengths (replicate room 0)).buffer

-- 12 in the last number, 13 in the first run, no room: 12 comes before 13, and both before 17
pub orders : List Example
orders =
    same (number 0 (0 ∷ 0 ∷ []) (0 ∷ 2 ^ 36 ∷ []) 0) 12
    ∷ same (number 0 (1 ∷ 0 ∷ 0 ∷ []) (1 ∷ 1 ∷ []) 0) 12
    ∷ same (number 0 (1 ∷ 0 ∷ []) (1 ∷ 1 ∷ []) 0) 13
    ∷ same (number 0 (0 ∷ 1 ∷ []) (1 ∷ 1 ∷ []) 4) 17
    ∷ same (number 0 (0 ∷ 1 ∷ []) (1 ∷ 1 ∷ []) 5) 0
    ∷ []

pub orders_hold : Hold orders
unfolding orders number write_sheet in_limits joined_before sheet_bytes header_bytes run_bytes encode
orders_hold = (refl, (refl, (refl, (refl, (refl, tt)))))

-- n numbers one after another
stretch : ℕ → ℕ → List ℕ
stretch first zero = []
stretch first (suc n) = first ∷ stretch (suc first) n

-- a start one page early, and one that touches; an end at page 2^36, and one past it; all 2^36 pages, and all but the first; 1,000 runs that touch, and 1,001
pub edges : List Example
edges =
    same (number 0 (0 ∷ 1 ∷ []) (2 ∷ 1 ∷ []) 12) 13
    ∷ same (bytes 0 (0 ∷ 2 ∷ []) (2 ∷ 1 ∷ []) 5) (0x01 ∷ 0x00 ∷ 0x01 ∷ 0x00 ∷ 0x03 ∷ [])
    ∷ same (number 0 ((2 ^ 36 - 1) ∷ []) (1 ∷ []) 18) 0
    ∷ same (number 0 ((2 ^ 36 - 1) ∷ []) (2 ∷ []) 18) 13
    ∷ same (number 0 (0 ∷ (2 ^ 36 - 1) ∷ []) ((2 ^ 36 - 1) ∷ 1 ∷ []) 18) 13
    ∷ same (number 0 (1 ∷ (2 ^ 36 - 1) ∷ []) ((2 ^ 36 - 2) ∷ 1 ∷ []) 18) 0
    ∷ same (bytes 0 (stretch 0 1000) (replicate 1000 1) 6) (0x01 ∷ 0x00 ∷ 0x01 ∷ 0x00 ∷ 0xE8 ∷ 0x07 ∷ [])
    ∷ same (number 0 (stretch 0 1001) (replicate 1001 1) 6) 12
    ∷ []

pub edges_hold : Hold edges
unfolding edges number bytes stretch write_sheet in_limits joined_before sheet_bytes header_bytes run_bytes encode
edges_hold = (refl, (refl, (refl, (refl, (refl, (refl, (refl, (refl, tt))))))))

-- ---- paging modes

-- one page with this mode and place, and its number with a run of no pages and no room
one_page : ℕ → ℕ → ℕ → WriteOutcome
one_page mode place room = write_sheet 0x7600 mode place (0 ∷ []) (1 ∷ []) (replicate room 0)

judged : ℕ → ℕ → ℕ
judged mode place = (write_sheet 0 mode place (0 ∷ []) (0 ∷ []) []).answer.number

done : ℕ → List ℕ → WriteOutcome
done length bytes = record { answer = record { number = 0; length = length }; buffer = bytes }

-- edition 1 for four levels; plain; PAE at 000's place, the first and the last; a byte too few
pub modes : List Example
modes =
    same (one_page 0 0 9) (done 7 (0x01 ∷ 0x80 ∷ 0xEC ∷ 0x01 ∷ 0x01 ∷ 0x00 ∷ 0x01 ∷ 0x00 ∷ 0x00 ∷ []))
    ∷ same (one_page 1 0 9) (done 9 (0x02 ∷ 0x80 ∷ 0xEC ∷ 0x01 ∷ 0x01 ∷ 0x00 ∷ 0x01 ∷ 0x00 ∷ 0x01 ∷ []))
    ∷ same (one_page 2 65 9) (done 9 (0x02 ∷ 0x80 ∷ 0xEC ∷ 0x01 ∷ 0x02 ∷ 0x41 ∷ 0x01 ∷ 0x00 ∷ 0x01 ∷ []))
    ∷ same (one_page 2 0 9) (done 9 (0x02 ∷ 0x80 ∷ 0xEC ∷ 0x01 ∷ 0x02 ∷ 0x00 ∷ 0x01 ∷ 0x00 ∷ 0x01 ∷ []))
    ∷ same (one_page 2 127 9) (done 9 (0x02 ∷ 0x80 ∷ 0xEC ∷ 0x01 ∷ 0x02 ∷ 0x7F ∷ 0x01 ∷ 0x00 ∷ 0x01 ∷ []))
    ∷ same (one_page 2 65 8) (unwritten (replicate 8 0) SheetBufferShort)
    -- 12 before 13 and 17: a mode over 2, a place over 127, a place in another mode than 2
    ∷ same (judged 3 0) 12
    ∷ same (judged 2 128) 12
    ∷ same (judged 1 1) 12
    ∷ same (judged 0 1) 12
    ∷ same (judged 0 128) 12
    ∷ same (judged 2 127) 13
    ∷ []

pub modes_hold : Hold modes
unfolding modes one_page judged done write_sheet in_limits joined_before sheet_bytes header_bytes run_bytes encode
modes_hold = (refl, (refl, (refl, (refl, (refl, (refl, (refl, (refl, (refl, (refl, (refl, (refl, tt))))))))))))
