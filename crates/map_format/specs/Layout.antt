-- 01 "Maps": the layout in seven-bit groups.
use Rattle.std.specs.Prelude.{ℕ, List, [], ◌∷◌, ◌++◌, if◌then◌else◌}
use Rattle.varint.specs.Groups.{encode}
use Rattle.map_format.specs.Extents.{has_file_page}
use Rattle.map_format.specs.declared.Extent.{Extent}
use Rattle.map_format.specs.declared.Header.{Header}

-- edition, start page, page count
unfoldable pub header_bytes : Header → List ℕ
header_bytes h = encode 1 ++ (encode h.start.0 ++ encode h.count)

unfoldable pub extent_bytes : Extent → List ℕ
extent_bytes e = encode e.code ++ (encode e.pages ++ (if has_file_page e.code then encode e.first else []))

abbrev pub extents_bytes : List Extent → List ℕ
extents_bytes [] = []
extents_bytes (e ∷ es) = extent_bytes e ++ extents_bytes es

unfoldable pub map_bytes : Header → List Extent → List ℕ
map_bytes h es = header_bytes h ++ extents_bytes es
