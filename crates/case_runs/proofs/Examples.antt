-- P1's runs and the image length that it asks for, and named inputs for the order of the refusals and for the room that is just enough.
use mathlib.Core.Path.{refl}
use mathlib.Core.List.{List, [], ◌∷◌, ◌++◌}
use Prim.Native.Nat.{ℕ}
use Rattle.base.specs.Example.{Example, same, Hold}
use Rattle.varint.specs.Groups.{decode, number}
use Rattle.base.specs.Refusal.{shown_position}
use Rattle.sheet.specs.Sheet.{mode_fields, header, run_from, runs_from, own_fields, sheet_fields, sheet_of}
use Rattle.base.specs.declared.Written.{Written}
use Rattle.case_runs.specs.Call.{CaseOutcome, case_runs_of, image_bytes, image_length_of}

p1_bytes : List ℕ
p1_bytes = 0x01 ∷ 0x87 ∷ 0x03 ∷ 0x02 ∷ 0x01 ∷ 0x9E ∷ 0x01 ∷ 0x61 ∷ 0xF0 ∷ 0xFD ∷ 0x0F ∷ []

five : List ℕ
five = 91 ∷ 92 ∷ 93 ∷ 94 ∷ 95 ∷ []

outcome : ℕ → ℕ → ℕ → List ℕ → CaseOutcome
outcome number directory length buffer = record { answer = record { number = number; directory = directory; mode = 0; place = 0; length = length }; buffer = buffer }

length_of : ℕ → ℕ → Written
length_of number length = record { number = number; length = length }

-- the two runs of P1 with one number to spare and with none; 53 with one too few; 16 before 53, 15 before 16; a sheet that ends before its first field
pub cases : List Example
cases =
    same (case_runs_of p1_bytes 0x3FF8E000 0 (90 ∷ 91 ∷ 92 ∷ 93 ∷ 94 ∷ 95 ∷ 96 ∷ [])) (outcome 0 0x187 2 (1 ∷ 0x9E ∷ 0 ∷ 0x100 ∷ 0x3FEF0 ∷ 0x9E ∷ 96 ∷ []))
    ∷ same (case_runs_of p1_bytes 0x3FF8E000 0 (90 ∷ five)) (outcome 0 0x187 2 (1 ∷ 0x9E ∷ 0 ∷ 0x100 ∷ 0x3FEF0 ∷ 0x9E ∷ []))
    ∷ same (case_runs_of p1_bytes 0x3FF8E000 0 five) (outcome 53 0 0 five)
    ∷ same (case_runs_of p1_bytes 0x3FF8E000 1 five) (outcome 16 0 0 five)
    ∷ same (case_runs_of p1_bytes 0 1 five) (outcome 15 0 0 five)
    ∷ same (case_runs_of [] 0 0 five) (outcome 10 0 0 five)
    ∷ []

-- P1; a byte after its last field; and none at all
pub lengths : List Example
lengths =
    same (image_length_of p1_bytes) (length_of 0 0x3FF8E000)
    ∷ same (image_length_of (p1_bytes ++ 0 ∷ [])) (length_of 14 0)
    ∷ same (image_length_of []) (length_of 10 0)
    ∷ []

pub cases_hold : Hold cases
unfolding cases p1_bytes five outcome shown_position case_runs_of sheet_of sheet_fields own_fields header runs_from run_from number decode
cases_hold = (refl, (refl, (refl, (refl, (refl, (refl, tt))))))

pub lengths_hold : Hold lengths
unfolding lengths p1_bytes length_of shown_position image_length_of image_bytes own_fields header runs_from run_from number decode
lengths_hold = (refl, (refl, (refl, tt)))

-- ---- edition 2

-- one page, in an address space of this directory page, mode and place
one_page : ℕ → ℕ → ℕ → CaseOutcome
one_page directory mode place = record { answer = record { number = 0; directory = directory; mode = mode; place = place; length = 1 }; buffer = 0 ∷ 1 ∷ 0 ∷ [] }

three : List ℕ
three = 91 ∷ 92 ∷ 93 ∷ []

-- plain paging; PAE at the first place, at another and at the last; a place that is not shortest
pub modes : List Example
modes =
    same (case_runs_of (0x02 ∷ 0x39 ∷ 0x01 ∷ 0x00 ∷ 0x01 ∷ 0x00 ∷ 0x01 ∷ []) 4096 0 three) (one_page 0x39 1 0)
    ∷ same (case_runs_of (0x02 ∷ 0x39 ∷ 0x02 ∷ 0x00 ∷ 0x01 ∷ 0x00 ∷ 0x01 ∷ []) 4096 0 three) (one_page 0x39 2 0)
    ∷ same (case_runs_of (0x02 ∷ 0x39 ∷ 0x02 ∷ 0x41 ∷ 0x01 ∷ 0x00 ∷ 0x01 ∷ []) 4096 0 three) (one_page 0x39 2 65)
    ∷ same (case_runs_of (0x02 ∷ 0x39 ∷ 0x02 ∷ 0x7F ∷ 0x01 ∷ 0x00 ∷ 0x01 ∷ []) 4096 0 three) (one_page 0x39 2 127)
    ∷ same (case_runs_of (0x02 ∷ 0x39 ∷ 0x02 ∷ 0xC1 ∷ 0x00 ∷ 0x01 ∷ 0x00 ∷ 0x01 ∷ []) 4096 0 three) (outcome 18 0 3 three)
    ∷ []

pub modes_hold : Hold modes
unfolding modes one_page three outcome shown_position case_runs_of sheet_of sheet_fields own_fields header mode_fields runs_from run_from number decode
modes_hold = (refl, (refl, (refl, (refl, (refl, tt)))))
