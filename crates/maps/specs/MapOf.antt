-- 01 "Maps": which ranges are allowed, and the map of a range.
use Rattle.std.specs.Prelude.{ℕ, zero, suc, ◌+◌, ◌-◌, ◌*◌, ◌/◌, ◌%◌, ◌^◌, Bool, ◌&&◌, ◌||◌, List, [], ◌∷◌, leb, eqb}
use Rattle.base.specs.Notation.{within}
use Rattle.entry.specs.declared.PagingMode.{PagingMode}
use Rattle.entry.specs.declared.PagingMode.TheVariants.{FourLevel, Plain, Pae}
use Rattle.entry.specs.Pages.{virtual_page_of}
use Rattle.walk.specs.Walk.{World, resolve_of, number_of, offset_of}
use Rattle.walk.specs.declared.Place.{Place}
use Rattle.map_format.specs.Extents.{mapped_page, extents_of}
use Rattle.map_format.specs.Layout.{map_bytes}
use Rattle.map_format.specs.declared.Header.{Header}
use Rattle.map_format.specs.declared.MappedPage.{MappedPage}

-- four levels: 1 to 2^20 whole pages, all canonical and in one half
unfoldable pub allowed_wide : ℕ → ℕ → Bool
allowed_wide start count =
    eqb (start % 4096) 0
    && (within 1 (2 ^ 20) count
    && (leb (start + 4096 * count) (2 ^ 47) || (leb (2 ^ 64 - 2 ^ 47) start && leb (start + 4096 * count) (2 ^ 64))))

-- the 32-bit profiles: whole pages, at least one, that end at or below 2^32 (02, order 7)
unfoldable pub allowed_narrow : ℕ → ℕ → Bool
allowed_narrow start count = eqb (start % 4096) 0 && (leb 1 count && leb (start + 4096 * count) (2 ^ 32))

unfoldable pub allowed : PagingMode → ℕ → ℕ → Bool
allowed FourLevel start count = allowed_wide start count
allowed Plain start count = allowed_narrow start count
allowed (Pae place) start count = allowed_narrow start count

-- the number as code, for 1 and 2 the offset divided by 4,096 as file page
abbrev pub mapped_page_of : Place → MappedPage
mapped_page_of p = mapped_page (number_of p) (offset_of p / 4096)

-- the answer for each page's first byte, in order
unfoldable pub pages_of : ℕ → World → ℕ → List MappedPage
pages_of zero w a = []
pages_of (suc n) w a = mapped_page_of (resolve_of 3 w a).place ∷ pages_of n w (a + 4096)

abbrev pub header_of : ℕ → ℕ → Header
header_of start count = record { start = virtual_page_of start; count = count }

-- the map of a range, whether it fits or not
unfoldable pub map_of : World → ℕ → ℕ → List ℕ
map_of w start count = map_bytes (header_of start count) (extents_of (pages_of count w start))
