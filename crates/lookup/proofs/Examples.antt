-- P2 of 01, looked up; and named inputs at which a wrong lookup would answer otherwise.
use mathlib.Core.Path.{refl}
use mathlib.Core.List.{List, [], ◌∷◌}
use Prim.Native.Nat.{ℕ, ◌+◌}
use Rattle.base.specs.Example.{Example, same, Hold}
use Rattle.base.specs.Codes.{is_code}
use Rattle.varint.specs.Groups.{decode, number}
use Rattle.varint.specs.Edition.{edition, edition_fields}
use Rattle.map_format.specs.Extents.{page_after}
use Rattle.map_format.specs.Reading.{header_fields, sound, extent_from, extents_from, map_fields}
use Rattle.lookup.specs.Call.{lookup_of}
use Rattle.lookup.specs.declared.Found.{Found}

p2_bytes : List ℕ
p2_bytes = 0x01 ∷ 0x90 ∷ 0x16 ∷ 0x03 ∷ 0x01 ∷ 0x02 ∷ 0x05 ∷ 0x16 ∷ 0x01 ∷ []

answered : ℕ → ℕ → Found
answered number offset = record { number = number; offset = offset }

pub lookups : List Example
lookups =
    same (lookup_of p2_bytes (0xB10000 + 0x123)) (answered 1 0x5123)
    ∷ same (lookup_of p2_bytes 0xB11FFF) (answered 1 0x6FFF)
    ∷ same (lookup_of p2_bytes 0xB12000) (answered 22 0)
    ∷ same (lookup_of p2_bytes 0xB13000) (answered 41 0)
    ∷ same (lookup_of p2_bytes 0xB0FFFF) (answered 41 0)
    ∷ same (lookup_of p2_bytes 0x0000800000000000) (answered 20 0)
    ∷ []

pub lookups_hold : Hold lookups
unfolding lookups p2_bytes answered lookup_of map_fields header_fields edition_fields edition extents_from extent_from is_code sound page_after number decode
lookups_hold = (refl, (refl, (refl, (refl, (refl, (refl, tt))))))

answer : List ℕ → ℕ → ℕ
answer bytes a = (lookup_of bytes a).number

-- an address that is not canonical, in a damaged map and in a sound one; neighbours that belong together; the end where the first page is awaited;
-- an extent after the last page; codes 20 and 30; a length of 0; a sum past the count; first page plus length past 2^36; no page; a range past its half; edition 2
pub orders : List Example
orders =
    same (answer (0x01 ∷ 0x00 ∷ 0x02 ∷ 0x03 ∷ 0x01 ∷ 0x03 ∷ 0x01 ∷ []) 0x0000800000000000) 43
    ∷ same (answer (0x01 ∷ 0x00 ∷ 0x02 ∷ 0x03 ∷ 0x02 ∷ []) 0x0000800000000000) 20
    ∷ same (answer (0x01 ∷ 0x00 ∷ 0x02 ∷ 0x03 ∷ 0x01 ∷ 0x03 ∷ 0x01 ∷ []) 0) 43
    ∷ same (answer (0x01 ∷ 0x00 ∷ 0x02 ∷ 0x01 ∷ 0x01 ∷ 0x05 ∷ 0x01 ∷ 0x01 ∷ 0x06 ∷ []) 0) 43
    ∷ same (answer (0x01 ∷ 0x00 ∷ 0x02 ∷ 0x01 ∷ 0x01 ∷ 0x05 ∷ 0x01 ∷ 0x01 ∷ 0x07 ∷ []) 0) 1
    ∷ same (answer (0x01 ∷ 0x00 ∷ 0x01 ∷ 0x01 ∷ 0x00 ∷ []) 0) 10
    ∷ same (answer (0x01 ∷ 0x00 ∷ 0x01 ∷ 0x03 ∷ 0x01 ∷ 0x16 ∷ 0x01 ∷ []) 0) 14
    ∷ same (answer (0x01 ∷ 0x00 ∷ 0x01 ∷ 0x14 ∷ []) 0) 43
    ∷ same (answer (0x01 ∷ 0x00 ∷ 0x01 ∷ 0x1E ∷ 0x01 ∷ []) 0) 43
    ∷ same (answer (0x01 ∷ 0x00 ∷ 0x01 ∷ 0x03 ∷ 0x00 ∷ []) 0) 43
    ∷ same (answer (0x01 ∷ 0x00 ∷ 0x01 ∷ 0x03 ∷ 0x02 ∷ []) 0) 43
    ∷ same (answer (0x01 ∷ 0x00 ∷ 0x02 ∷ 0x01 ∷ 0x02 ∷ 0xFF ∷ 0xFF ∷ 0xFF ∷ 0xFF ∷ 0xFF ∷ 0x01 ∷ []) 0) 43
    ∷ same (answer (0x01 ∷ 0x00 ∷ 0x01 ∷ 0x01 ∷ 0x01 ∷ 0xFF ∷ 0xFF ∷ 0xFF ∷ 0xFF ∷ 0xFF ∷ 0x01 ∷ []) 0) 1
    ∷ same (answer (0x01 ∷ 0x00 ∷ 0x00 ∷ []) 0) 12
    ∷ same (answer (0x01 ∷ 0xFF ∷ 0xFF ∷ 0xFF ∷ 0xFF ∷ 0x7F ∷ 0x02 ∷ 0x03 ∷ 0x02 ∷ []) 0) 12
    ∷ same (answer (0x01 ∷ 0xFF ∷ 0xFF ∷ 0xFF ∷ 0xFF ∷ 0xFF ∷ 0x01 ∷ 0x02 ∷ 0x03 ∷ 0x02 ∷ []) 0) 12
    ∷ same (answer (0x02 ∷ 0x00 ∷ 0x01 ∷ 0x03 ∷ 0x01 ∷ []) 0) 12
    ∷ same (answer [] 0) 10
    ∷ []

pub orders_hold : Hold orders
unfolding orders answer lookup_of map_fields header_fields edition_fields edition extents_from extent_from is_code sound page_after number decode
orders_hold = (refl, (refl, (refl, (refl, (refl, (refl, (refl, (refl, (refl, (refl, (refl, (refl, (refl, (refl, (refl, (refl, (refl, (refl, tt))))))))))))))))))
