-- 01 "What the reader covers": the small program's three files in its buffer, and what it prints.
use Rattle.std.specs.Prelude.{ℕ, ◌-◌, List, take, drop}
use Rattle.words.specs.Words.{word_at}
use Rattle.case.specs.Case.{Case, case_of}
use Rattle.address.specs.Call.{address_of}
use Rattle.address.specs.Line.{line_of}

-- the bytes from one place to another
abbrev pub part : List ℕ → ℕ → ℕ → List ℕ
part buf from to = take (to - from) (drop from buf)

-- the sheet first, then the image, then the pagefile
abbrev pub case_of_files : List ℕ → ℕ → ℕ → ℕ → Case
case_of_files buf image pagefile end = case_of (take image buf) (part buf image pagefile) (part buf pagefile end)

-- the line for the 8 bytes of an address
abbrev pub line_for : List ℕ → ℕ → ℕ → ℕ → List ℕ → List ℕ
line_for buf image pagefile end address = line_of (address_of (case_of_files buf image pagefile end) (word_at address 0))
