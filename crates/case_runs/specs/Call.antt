-- What the calls on a case's sheet hand back. They are our own, beside those of 01.
use Rattle.std.specs.Prelude.{ℕ, ◌+◌, ◌*◌, List, [], ◌∷◌, ltb, length, if◌then◌else◌}
use Rattle.std.proofs.lemmas.List.Edits.{sets}
use Rattle.base.specs.Refusal.{refusal_number, shown_position}
use Rattle.base.specs.declared.Fault.{Fault}
use Rattle.base.specs.declared.Refusal.{Refusal}
use Rattle.base.specs.declared.Refusal.TheVariants.{ListBufferShort}
use Rattle.base.specs.Written.{fault_written}
use Rattle.base.specs.declared.Written.{Written}
use Rattle.varint.specs.Reader.{Read, got, refused, Reader, ◌>>=◌, return}
use Rattle.sheet.specs.Sheet.{mode_number, place_of, run_pages, Sheet, own_fields, sheet_of}
use Rattle.sheet.specs.declared.Run.{Run}
use Rattle.case_runs.specs.declared.CaseRead.{CaseRead}

-- for each run its first frame, its pages and its image page; `pages` is how many pages stand before it in the image
abbrev pub run_numbers : ℕ → List Run → List ℕ
run_numbers pages [] = []
run_numbers pages (r ∷ rs) = r.first.0 ∷ r.pages ∷ pages ∷ run_numbers (pages + r.pages) rs

-- the answer, and the lent buffer after the call
pub record CaseOutcome : Type 0 where
  pub answer : CaseRead
  pub buffer : List ℕ

abbrev pub case_refusal : Refusal → CaseRead
case_refusal r = record { number = refusal_number r; directory = 0; mode = 0; place = 0; length = 0 }

-- a sheet at fault
abbrev pub fault_case : Fault → CaseRead
fault_case f = record { number = refusal_number f.refusal; directory = 0; mode = 0; place = 0; length = shown_position f }

-- a refusal leaves the buffer as it was lent
abbrev pub unlisted : List ℕ → Refusal → CaseOutcome
unlisted out r = record { answer = case_refusal r; buffer = out }

-- 53 exactly if three numbers a run are more than the buffer has; what lies after them stays
abbrev pub listed : List ℕ → Sheet → CaseOutcome
listed out s =
    if ltb (length out) (3 * length s.runs) then unlisted out ListBufferShort else
    record {
      answer = record {
        number = 0;
        directory = s.space.directory.0;
        mode = mode_number s.space.mode;
        place = place_of s.space.mode;
        length = length s.runs;
      };
      buffer = sets out 0 (run_numbers 0 s.runs);
    }

abbrev pub checked_runs : List ℕ → Read Sheet → CaseOutcome
checked_runs out (refused f) = record { answer = fault_case f; buffer = out }
checked_runs out (got s at) = listed out s

-- the sheet and the two lengths are checked first
unfoldable pub case_runs_of : List ℕ → ℕ → ℕ → List ℕ → CaseOutcome
case_runs_of bytes image pagefile out = checked_runs out (sheet_of bytes image pagefile)

-- the bytes that a sheet asks of its image: its fields, without the lengths of the two files
unfoldable pub image_bytes : Reader ℕ
image_bytes = do
  s ← own_fields
  return (4096 * run_pages s.runs)

abbrev pub length_read : Read ℕ → Written
length_read (got n at) = record { number = 0; length = n }
length_read (refused f) = fault_written f

unfoldable pub image_length_of : List ℕ → Written
image_length_of bytes = length_read (image_bytes bytes 0)
