-- 01 "Maps": reading a map from left to right, where the first fault wins.
use Rattle.std.specs.Prelude.{ℕ, zero, suc, ◌+◌, ◌-◌, ◌^◌, Bool, not, ◌&&◌, ◌||◌, List, [], ◌∷◌, ltb, leb, eqb, if◌then◌else◌}
use Rattle.base.specs.Notation.{within}
use Rattle.base.specs.Codes.{is_code}
use Rattle.base.specs.declared.Refusal.TheVariants.{OutOfLimits, BadExtent}
use Rattle.varint.specs.Reader.{Reader, ◌>>=◌, ◌>>◌, return, need, ended}
use Rattle.varint.specs.Groups.{number}
use Rattle.varint.specs.Edition.{edition_fields}
use Rattle.entry.specs.Pages.{virtual_page}
use Rattle.entry.specs.declared.VirtualPage.{VirtualPage}
use Rattle.map_format.specs.Extents.{has_file_page, joins, extent, no_extent}
use Rattle.map_format.specs.declared.Extent.{Extent}
use Rattle.map_format.specs.declared.Header.{Header}

-- 1 to 2^20 pages in one half of 2^35
abbrev pub in_half : VirtualPage → ℕ → Bool
in_half start count = within 1 (2 ^ 20) count && (if ltb start.0 (2 ^ 35) then leb (start.0 + count) (2 ^ 35) else leb (start.0 + count) (2 ^ 36))

-- edition, start page, page count; the range is judged when the count has been read
unfoldable pub header_fields : Reader Header
header_fields = do
  fields ← edition_fields
  need (in_half (virtual_page fields.first) fields.second) OutOfLimits
  return (record { start = virtual_page fields.first; count = fields.second })

-- the first page of the file, for codes that have one
abbrev pub first_from : ℕ → Reader ℕ
first_from code = if has_file_page code then number else return 0

-- the extent rules, with `left` pages left, after the extent `prev` (of 0 pages: none)
unfoldable pub sound : ℕ → Extent → Extent → Bool
sound left prev e =
    ltb 0 e.pages
    && (leb e.pages left
    && ((not (has_file_page e.code) || leb (e.first + e.pages) (2 ^ 36))
    && not (ltb 0 prev.pages && joins prev e.code e.first)))

-- a code that is not listed is refused at once, any other broken rule when the last field has been read
unfoldable pub extent_from : ℕ → Extent → Reader Extent
extent_from left prev = do
  code ← number
  need (is_code code) BadExtent
  pages ← number
  first ← first_from code
  need (sound left prev (extent code pages first)) BadExtent
  return (extent code pages first)

-- extents until their pages sum to the pages left; each has a page or more, so that `left` of them are enough
unfoldable pub extents_from : ℕ → ℕ → Extent → Reader (List Extent)
extents_from zero left prev = return []
extents_from (suc n) left prev = if eqb left 0 then return [] else do
  e ← extent_from left prev
  es ← extents_from n (left - e.pages) e
  return (e ∷ es)

pub record Map : Type 0 where
  pub header : Header
  pub extents : List Extent

unfoldable pub map_fields : Reader Map
map_fields = do
  h ← header_fields
  extents ← extents_from h.count h.count no_extent
  ended
  return (record { header = h; extents = extents })
