-- What reading parts of a sheet finds, as the code hands it back.
use Rattle.std.specs.Prelude.{◌≡◌, List, ℕ, ◌+◌, ◌-◌, ◌*◌, ◌≤◌, Bool, true, leb, set, Result, Ok, Err}
use Rattle.std.proofs.lemmas.List.Edits.{sets}
use Rattle.base.specs.declared.Fault.{Fault}
use Rattle.varint.specs.Reader.{Read, got, refused}
use Rattle.entry.specs.declared.PagingMode.{PagingMode}
use Rattle.entry.specs.declared.PagingMode.TheVariants.{FourLevel, Plain, Pae}
use Rattle.sheet.specs.Sheet.{Sheet, end_of, run_pages}
use Rattle.sheet.specs.Call.{rows_from, header_of}
use Rattle.sheet.specs.declared.Header.{Header}
use Rattle.sheet.specs.declared.Run.{Run}

-- a place in a page of 128, each of 32 bytes
abbrev pub PlaceInPage : PagingMode → Type 0
PlaceInPage FourLevel = Unit {0}
PlaceInPage Plain = Unit {0}
PlaceInPage (Pae place) = place ≤ 127

-- at most 32 runs by the fields before the runs; where these are refused there are none
abbrev pub few_runs : Read Header → Bool
few_runs (got h next) = leb h.count 32
few_runs (refused f) = true

-- the numbers with a run's row at place i; `pages` is how many pages stand before it in the image
abbrev pub with_row : List ℕ → ℕ → ℕ → Run → List ℕ
with_row rows i pages r = set (set (set rows (3 * i) r.first.0) (3 * i + 1) (end_of r)) (3 * i + 2) (r.first.0 - pages)

-- runs that were read: their pages, and their rows over the lent numbers
abbrev pub RunsLaid : Read (List Run) → List ℕ → Result (ℕ × ℕ) Fault → List ℕ → Type 0
RunsLaid (got rs next) old r new = (r ≡ Ok (run_pages rs, next)) × (new ≡ sets old 0 (rows_from 0 rs))
RunsLaid (refused f) old r new = r ≡ Err f

-- the fields that were read: what a walk needs of them, the pages of the runs, and their rows over the lent numbers
abbrev pub FieldsLaid : Read Sheet → List ℕ → Result (Header × ℕ) Fault → List ℕ → Type 0
FieldsLaid (got s at) old r new = (r ≡ Ok (header_of s, run_pages s.runs)) × (new ≡ sets old 0 (rows_from 0 s.runs))
FieldsLaid (refused f) old r new = r ≡ Err f
