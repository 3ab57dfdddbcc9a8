-- What the inner functions of the lookup answer.
use Rattle.std.specs.Prelude.{ℕ, ◌-◌, not, List, leb, eqb, length, if◌then◌else◌, Result, Ok, Err}
use Rattle.base.specs.Refusal.{unplaced}
use Rattle.base.specs.declared.Fault.{Fault}
use Rattle.base.specs.declared.Refusal.{Refusal}
use Rattle.base.specs.declared.Refusal.TheVariants.{TrailingBytes, NotCanonical, OutsideMap}
use Rattle.varint.specs.Reader.{Read, got, refused}
use Rattle.entry.specs.Addresses.{canonical}
use Rattle.entry.specs.Pages.{virtual_page_of}
use Rattle.map_format.specs.Extents.{page_at}
use Rattle.map_format.specs.Reading.{Map}
use Rattle.map_format.specs.declared.Extent.{Extent}
use Rattle.map_format.specs.declared.Header.{Header}
use Rattle.map_format.specs.declared.MappedPage.{MappedPage}
use Rattle.lookup.specs.Call.{answer_at, in_range}
use Rattle.lookup.specs.declared.Found.{Found}

-- the last extent that begins at or before page k, and the page's place in it, with the extent e after `done` pages
unfoldable pub extent_noted : Extent × ℕ → ℕ → ℕ → Extent → Extent × ℕ
extent_noted old done k e = if leb done k then (e, k - done) else old

-- page k of the extents that were read, if no byte stands after them
abbrev pub page_of_read : List ℕ → ℕ → Read (List Extent) → Result MappedPage Fault
page_of_read s k (got es at) = if eqb at (length s) then Ok (page_at es k) else Err (unplaced TrailingBytes)
page_of_read s k (refused f) = Err f

-- the page of the range that an address asks for, or its refusal
unfoldable pub asked_of : Header → ℕ → Result ℕ Refusal
asked_of h a =
    if not (canonical a) then Err NotCanonical else
    if in_range h (virtual_page_of a) then Ok ((virtual_page_of a).0 - h.start.0) else
    Err OutsideMap

-- the answer of the page that is asked for
abbrev pub answer_for : ℕ → List Extent → Result ℕ Refusal → Result Found Fault
answer_for a es (Ok k) = Ok (answer_at a (page_at es k))
answer_for a es (Err r) = Err (unplaced r)

abbrev pub found_in : ℕ → Read Map → Result Found Fault
found_in a (got m at) = answer_for a m.extents (asked_of m.header a)
found_in a (refused f) = Err f
