-- What reading a sheet hands back.
use Rattle.std.specs.Prelude.{◌≡◌, List, [], ◌∷◌, ℕ, ◌+◌, ◌-◌, length, Result, Ok, Err}
use Rattle.std.proofs.lemmas.List.Edits.{sets}
use Rattle.base.specs.declared.Fault.{Fault}
use Rattle.varint.specs.Reader.{Read, got, refused}
use Rattle.sheet.specs.Sheet.{Sheet, end_of}
use Rattle.sheet.specs.declared.Header.{Header}
use Rattle.sheet.specs.declared.Run.{Run}

-- for each run its first frame, the frame after its last, and how many frames below it are in no run; `pages` is how many pages stand before it in the image
abbrev pub rows_from : ℕ → List Run → List ℕ
rows_from pages [] = []
rows_from pages (r ∷ rs) = r.first.0 ∷ end_of r ∷ (r.first.0 - pages) ∷ rows_from (pages + r.pages) rs

-- what a walk needs of a sheet beside its rows
abbrev pub header_of : Sheet → Header
header_of s = record { space = s.space; count = length s.runs }

abbrev pub sheet_read : Read Sheet → Result Header Fault
sheet_read (got s at) = Ok (header_of s)
sheet_read (refused f) = Err f

-- the rows of an accepted sheet lie over the lent numbers; what a refused sheet leaves there is free
abbrev pub RowsLaid : List ℕ → Read Sheet → List ℕ → Type 0
RowsLaid old (got s at) new = new ≡ sets old 0 (rows_from 0 s.runs)
RowsLaid old (refused f) new = Unit {0}

pub record SheetAnswer (d : Read Sheet) (old : List ℕ) (r : Result Header Fault) (new : List ℕ) : Type 0 where
  pub same : r ≡ sheet_read d
  pub rows : RowsLaid old d new
