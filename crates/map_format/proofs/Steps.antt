-- What is left of each reader after each of its steps.
use mathlib.Core.List.{List, ◌∷◌}
use Prim.Native.Nat.{ℕ, ◌-◌}
use Rattle.base.specs.Codes.{is_code}
use Rattle.base.specs.declared.Refusal.TheVariants.{OutOfLimits, BadExtent}
use Rattle.entry.specs.Pages.{virtual_page}
use Rattle.varint.specs.Edition.{EditionFields}
use Rattle.varint.specs.Groups.{number}
use Rattle.varint.specs.Reader.{Reader, ◌>>=◌, ◌>>◌, return, need, ended}
use Rattle.map_format.specs.Extents.{extent, no_extent}
use Rattle.map_format.specs.Reading.{in_half, first_from, sound, extents_from, Map}
use Rattle.map_format.specs.declared.Extent.{Extent}
use Rattle.map_format.specs.declared.Header.{Header}

abbrev pub header_of : EditionFields → Header
header_of f = record { start = virtual_page f.first; count = f.second }

abbrev pub after_edition : EditionFields → Reader Header
after_edition f = do
  need (in_half (virtual_page f.first) f.second) OutOfLimits
  return (header_of f)

module _ (left : ℕ) (prev : Extent) where
  abbrev pub after_first : ℕ → ℕ → ℕ → Reader Extent
  after_first code pages first = do
    need (sound left prev (extent code pages first)) BadExtent
    return (extent code pages first)

  abbrev pub after_length : ℕ → ℕ → Reader Extent
  after_length code pages = do
    first ← first_from code
    after_first code pages first

  abbrev pub after_listed : ℕ → Reader Extent
  after_listed code = do
    pages ← number
    after_length code pages

  abbrev pub after_code : ℕ → Reader Extent
  after_code code = do
    need (is_code code) BadExtent
    after_listed code

abbrev pub after_extent : ℕ → ℕ → Extent → Reader (List Extent)
after_extent n left e = do
  es ← extents_from n (left - e.pages) e
  return (e ∷ es)

abbrev pub after_extents : Header → List Extent → Reader Map
after_extents h es = do
  ended
  return (record { header = h; extents = es })

abbrev pub after_header : Header → Reader Map
after_header h = do
  es ← extents_from h.count h.count no_extent
  after_extents h es
