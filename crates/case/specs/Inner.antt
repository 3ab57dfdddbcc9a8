-- What opening a case hands back.
use Rattle.std.specs.Prelude.{◌≡◌, List, ℕ, ◌*◌, length, Result, Ok, Err}
use Rattle.varint.specs.Reader.{Read, got, refused}
use Rattle.base.specs.declared.Fault.{Fault}
use Rattle.base.specs.declared.Refusal.{Refusal}
use Rattle.base.specs.declared.Refusal.TheVariants.{ModeNotServed}
use Rattle.entry.specs.declared.PagingMode.{PagingMode}
use Rattle.entry.specs.declared.PagingMode.TheVariants.{FourLevel, Plain, Pae}
use Rattle.sheet.specs.Sheet.{Sheet}
use Rattle.sheet.specs.declared.AddressSpace.{AddressSpace}
use Rattle.sheet.specs.Call.{RowsLaid}
use Rattle.resolution.specs.declared.OpenCase.{OpenCase}
use Rattle.case.specs.Case.{Case, check_of}

-- how many numbers the rows of a case take: three a run
abbrev pub numbers_of : Read Sheet → ℕ
numbers_of (got s at) = 3 * length s.runs
numbers_of (refused f) = 0

abbrev pub row_numbers : Case → ℕ
row_numbers c = numbers_of (check_of c)

-- the address space of an accepted case, and how many numbers its rows take
abbrev pub opened_of : Read Sheet → Result (AddressSpace × ℕ) Fault
opened_of (got s at) = Ok (s.space, 3 * length s.runs)
opened_of (refused f) = Err f

-- the rows of a case that its check d accepts lie over the lent numbers
pub record Opens (d : Read Sheet) (old : List ℕ) (r : Result (AddressSpace × ℕ) Fault) (new : List ℕ) : Type 0 where
  pub same : r ≡ opened_of d
  pub rows : RowsLaid old d new

-- an opened case, for a call that serves four levels alone
abbrev pub four_levels_case : PagingMode → OpenCase → Result OpenCase Refusal
four_levels_case FourLevel c = Ok c
four_levels_case Plain c = Err ModeNotServed
four_levels_case (Pae place) c = Err ModeNotServed
