-- P2 of 01, for the statement over P1 to P12; and named inputs at which a wrong reader would answer otherwise.
use mathlib.Core.Path.{refl}
use mathlib.Core.List.{List, [], ◌∷◌}
use Prim.Native.Nat.{ℕ}
use Rattle.base.specs.Example.{Example, same, Hold}
use Rattle.base.specs.Refusal.{refusal_number, shown_position}
use Rattle.base.specs.Codes.{is_code}
use Rattle.varint.specs.Reader.{Read, got, refused}
use Rattle.varint.specs.Groups.{encode, decode, number}
use Rattle.varint.specs.Edition.{edition, edition_fields}
use Rattle.entry.specs.Pages.{virtual_page}
use Rattle.map_format.specs.Extents.{mapped_page, page_after, extent, joined, extents_of, page_at}
use Rattle.map_format.specs.Layout.{header_bytes, extent_bytes, map_bytes}
use Rattle.map_format.specs.Reading.{header_fields, sound, extent_from, extents_from, Map, map_fields}
use Rattle.map_format.specs.declared.Header.{Header}
use Rattle.map_format.specs.declared.MappedPage.{MappedPage}

p2_bytes : List ℕ
p2_bytes = 0x01 ∷ 0x90 ∷ 0x16 ∷ 0x03 ∷ 0x01 ∷ 0x02 ∷ 0x05 ∷ 0x16 ∷ 0x01 ∷ []

p2_pages : List MappedPage
p2_pages = mapped_page 1 5 ∷ mapped_page 1 6 ∷ mapped_page 22 0 ∷ []

p2_header : Header
p2_header = record { start = virtual_page 0xB10; count = 3 }

p2_map : Map
p2_map = record { header = p2_header; extents = extent 1 2 5 ∷ extent 22 1 0 ∷ [] }

pub p2 : List Example
p2 =
    same (map_bytes p2_header (extents_of p2_pages)) p2_bytes
    ∷ same (map_fields p2_bytes 0) (got p2_map 9)
    ∷ same (page_at (extents_of p2_pages) 1) (mapped_page 1 6)
    ∷ same (page_at (extents_of p2_pages) 2) (mapped_page 22 0)
    ∷ []

pub p2_holds : Hold p2
unfolding p2 p2_bytes p2_pages p2_header p2_map map_bytes header_bytes extent_bytes joined page_after encode map_fields header_fields edition_fields edition extents_from extent_from is_code sound number decode
p2_holds = (refl, (refl, (refl, (refl, tt))))

-- 0 for a map that is taken
answer_of_lem : Read Map → ℕ
answer_of_lem (got m at) = 0
answer_of_lem (refused f) = refusal_number f.refusal

answer : List ℕ → ℕ
answer bytes = answer_of_lem (map_fields bytes 0)

-- neighbours that belong together; a code that is not listed, before the end; no pages, and pages past the count, when the last field has been read;
-- a byte after the last; 0 pages and edition 2 are 12
pub orders : List Example
orders =
    same (answer (0x01 ∷ 0x00 ∷ 0x02 ∷ 0x01 ∷ 0x01 ∷ 0x05 ∷ 0x01 ∷ 0x01 ∷ 0x06 ∷ [])) 43
    ∷ same (answer (0x01 ∷ 0x00 ∷ 0x02 ∷ 0x01 ∷ 0x01 ∷ 0x05 ∷ 0x01 ∷ 0x01 ∷ 0x07 ∷ [])) 0
    ∷ same (answer (0x01 ∷ 0x00 ∷ 0x02 ∷ 0x03 ∷ 0x01 ∷ 0x03 ∷ 0x01 ∷ [])) 43
    ∷ same (answer (0x01 ∷ 0x00 ∷ 0x02 ∷ 0x04 ∷ [])) 43
    ∷ same (answer (0x01 ∷ 0x00 ∷ 0x02 ∷ 0x01 ∷ 0x00 ∷ [])) 10
    ∷ same (answer (0x01 ∷ 0x00 ∷ 0x02 ∷ 0x01 ∷ 0x00 ∷ 0x05 ∷ [])) 43
    ∷ same (answer (0x01 ∷ 0x00 ∷ 0x02 ∷ 0x01 ∷ 0x03 ∷ 0x05 ∷ [])) 43
    ∷ same (answer (0x01 ∷ 0x00 ∷ 0x02 ∷ 0x03 ∷ 0x02 ∷ 0x00 ∷ [])) 14
    ∷ same (answer (0x01 ∷ 0x00 ∷ 0x00 ∷ [])) 12
    ∷ same (answer (0x02 ∷ [])) 12
    ∷ []

pub orders_hold : Hold orders
unfolding orders answer answer_of_lem page_after map_fields header_fields edition_fields edition extents_from extent_from is_code sound number decode
orders_hold = (refl, (refl, (refl, (refl, (refl, (refl, (refl, (refl, (refl, (refl, tt))))))))))

-- ---- where a number is at fault

-- the number and the position that it shows
told : List ℕ → ℕ × ℕ
told bytes = told_of (map_fields bytes 0)
  where
    told_of : Read Map → ℕ × ℕ
    told_of (got m at) = (0, 0)
    told_of (refused f) = (refusal_number f.refusal, shown_position f)

-- in header, code, length and first page: 18, 11, the end within a number and a number of 2^36
pub places : List Example
places =
    same (told (0x81 ∷ 0x00 ∷ [])) (18, 0)
    ∷ same (told (0x01 ∷ 0x80 ∷ 0x80 ∷ 0x80 ∷ 0x80 ∷ 0x80 ∷ 0x80 ∷ [])) (11, 1)
    ∷ same (told (0x01 ∷ 0x00 ∷ 0x82 ∷ 0x00 ∷ [])) (18, 2)
    ∷ same (told (0x01 ∷ 0x80 ∷ [])) (10, 0)
    ∷ same (told (0x01 ∷ 0x80 ∷ 0x80 ∷ 0x80 ∷ 0x80 ∷ 0x80 ∷ 0x02 ∷ [])) (12, 0)
    ∷ same (told (0x01 ∷ 0x00 ∷ 0x02 ∷ 0x83 ∷ 0x00 ∷ [])) (18, 3)
    ∷ same (told (0x01 ∷ 0x00 ∷ 0x02 ∷ 0x80 ∷ 0x80 ∷ 0x80 ∷ 0x80 ∷ 0x80 ∷ 0x80 ∷ [])) (11, 3)
    ∷ same (told (0x01 ∷ 0x00 ∷ 0x02 ∷ 0x80 ∷ [])) (10, 0)
    ∷ same (told (0x01 ∷ 0x00 ∷ 0x02 ∷ 0x80 ∷ 0x80 ∷ 0x80 ∷ 0x80 ∷ 0x80 ∷ 0x02 ∷ [])) (12, 0)
    ∷ same (told (0x01 ∷ 0x00 ∷ 0x02 ∷ 0x03 ∷ 0x81 ∷ 0x00 ∷ [])) (18, 4)
    ∷ same (told (0x01 ∷ 0x00 ∷ 0x02 ∷ 0x03 ∷ 0x80 ∷ 0x80 ∷ 0x80 ∷ 0x80 ∷ 0x80 ∷ 0x80 ∷ [])) (11, 4)
    ∷ same (told (0x01 ∷ 0x00 ∷ 0x02 ∷ 0x03 ∷ 0x80 ∷ [])) (10, 0)
    ∷ same (told (0x01 ∷ 0x00 ∷ 0x02 ∷ 0x03 ∷ 0x80 ∷ 0x80 ∷ 0x80 ∷ 0x80 ∷ 0x80 ∷ 0x02 ∷ [])) (12, 0)
    ∷ same (told (0x01 ∷ 0x00 ∷ 0x02 ∷ 0x03 ∷ 0x01 ∷ 0x01 ∷ 0x01 ∷ 0x85 ∷ 0x00 ∷ [])) (18, 7)
    ∷ same (told (0x01 ∷ 0x00 ∷ 0x02 ∷ 0x03 ∷ 0x01 ∷ 0x01 ∷ 0x01 ∷ 0x80 ∷ 0x80 ∷ 0x80 ∷ 0x80 ∷ 0x80 ∷ 0x80 ∷ [])) (11, 7)
    ∷ same (told (0x01 ∷ 0x00 ∷ 0x02 ∷ 0x01 ∷ 0x01 ∷ 0x80 ∷ [])) (10, 0)
    ∷ same (told (0x01 ∷ 0x00 ∷ 0x02 ∷ 0x01 ∷ 0x01 ∷ 0x80 ∷ 0x80 ∷ 0x80 ∷ 0x80 ∷ 0x80 ∷ 0x02 ∷ [])) (12, 0)
    ∷ []

pub places_hold : Hold places
unfolding places told shown_position page_after map_fields header_fields edition_fields edition extents_from extent_from is_code sound number decode
places_hold = (refl, (refl, (refl, (refl, (refl, (refl, (refl, (refl, (refl, (refl, (refl, (refl, (refl, (refl, (refl, (refl, (refl, tt)))))))))))))))))
