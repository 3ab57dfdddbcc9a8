-- 01 "Maps", lookup: what the call hands back. The map's own faults, then 20, then 41.
use Rattle.std.specs.Prelude.{ℕ, ◌+◌, ◌-◌, ◌*◌, ◌%◌, ◌≤◌, ◌≡◌, ◌⊎◌, Bool, true, not, ◌&&◌, List, ltb, leb, if◌then◌else◌}
use Rattle.base.specs.Refusal.{refusal_number, shown_position}
use Rattle.base.specs.Codes.{is_code}
use Rattle.base.specs.declared.Fault.{Fault}
use Rattle.base.specs.declared.Refusal.{Refusal}
use Rattle.base.specs.declared.Refusal.TheVariants.{NotCanonical, OutsideMap}
use Rattle.varint.specs.Reader.{Read, got, refused}
use Rattle.entry.specs.Addresses.{canonical}
use Rattle.entry.specs.Pages.{virtual_page_of}
use Rattle.entry.specs.declared.VirtualPage.{VirtualPage}
use Rattle.map_format.specs.Extents.{has_file_page, page_at, extent_pages}
use Rattle.map_format.specs.Reading.{Map, map_fields}
use Rattle.map_format.specs.declared.Header.{Header}
use Rattle.map_format.specs.declared.MappedPage.{MappedPage}
use Rattle.lookup.specs.declared.Found.{Found}

abbrev pub refused_lookup : Refusal → Found
refused_lookup r = record { number = refusal_number r; offset = 0 }

-- a map at fault
abbrev pub fault_found : Fault → Found
fault_found f = record { number = refusal_number f.refusal; offset = shown_position f }

-- the answer for an address of a page: for 1 and 2 the offset has the place in the page
abbrev pub answer_at : ℕ → MappedPage → Found
answer_at a p = record { number = p.code; offset = if has_file_page p.code then 4096 * p.file + a % 4096 else 0 }

-- is a page in the map's range?
abbrev pub in_range : Header → VirtualPage → Bool
in_range h page = leb h.start.0 page.0 && ltb page.0 (h.start.0 + h.count)

abbrev pub lookup_read : ℕ → Read Map → Found
lookup_read a (refused f) = fault_found f
lookup_read a (got m at) =
    if not (canonical a) then refused_lookup NotCanonical else
    if in_range m.header (virtual_page_of a)
    then answer_at a (page_at m.extents ((virtual_page_of a).0 - m.header.start.0)) else
    refused_lookup OutsideMap

unfoldable pub lookup_of : List ℕ → ℕ → Found
lookup_of bytes a = lookup_read a (map_fields bytes 0)

-- the lookup's promise: what it hands back, and that no default of `page_at` stands in it
pub record LookupAnswer (bytes : List ℕ) (a : ℕ) (r : Found) : Type 0 where
  pub same : r ≡ lookup_of bytes a
  -- the extents of an accepted map cover its range: each page of it is a page of an extent
  pub whole : (m : Map) (at : ℕ) → map_fields bytes 0 ≡ got m at → extent_pages m.extents ≡ m.header.count
  -- a code that an extent can have, or a refusal
  pub number : (is_code r.number ≡ true) ⊎ (10 ≤ r.number)
