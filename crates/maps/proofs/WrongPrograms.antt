-- 01's wrong program "a map right in its first extent only" does not keep demand 3, at a named case and range.
use mathlib.Core.Path.{◌≡◌, refl, ap}
use mathlib.Core.List.{List, [], ◌∷◌}
use Prim.Native.Nat.{ℕ}
use native.Mathlib.Omega.{arith}
use lib.ListN.{replicate}
use Rattle.base.specs.Codes.{is_code}
use Rattle.varint.specs.Groups.{decode, number}
use Rattle.varint.specs.Edition.{edition, edition_fields}
use Rattle.words.specs.Words.{little_at}
use Rattle.entry.specs.Pages.{frame}
use Rattle.entry.specs.Addresses.{reachable, reachable_in}
use Rattle.entry.specs.Entry.{level_of, leaf_of, leaf_in, upper_of}
use Rattle.sheet.specs.Sheet.{space_at}
use Rattle.walk.specs.Walk.{World, world_of, frame_in, settle_of, descend_of, resolve_of}
use Rattle.map_format.specs.Extents.{page_after}
use Rattle.map_format.specs.Reading.{header_fields, sound, extent_from, extents_from, map_fields}
use Rattle.lookup.specs.Call.{lookup_of}
use Rattle.lookup.specs.declared.Found.{Found}
use Rattle.maps.specs.Demand3.{Demand3, walk_answer}

-- an image page that is its own table at every level: its first entry is valid, all others are 0
pub one_page : World
one_page = world_of (record { space = space_at 0; runs = record { first = frame 0; pages = 1 } ∷ [] }) (1 ∷ replicate 4095 0) []

-- a map of two pages, both in the image: right for the first page, at which its one extent starts
pub first_right : List ℕ
first_right = 0x01 ∷ 0x00 ∷ 0x02 ∷ 0x01 ∷ 0x02 ∷ 0x00 ∷ []

map_says : (lookup_of first_right 0x1000).number ≡ 1
unfolding first_right lookup_of map_fields header_fields edition_fields edition extents_from extent_from is_code sound page_after number decode
map_says = refl

walk_says : (walk_answer one_page 0x1000).number ≡ 22
unfolding one_page level_of leaf_of leaf_in upper_of frame_in settle_of resolve_of reachable reachable_in descend_of little_at
walk_says = refl

pub first_extent_only_refused : (old : List ℕ) → Demand3 one_page 0 2 old (record { answer = record { number = 0; length = 6 }; buffer = first_right }) → ⊥
unfolding first_right
first_extent_only_refused old d =
    let same : lookup_of first_right 0x1000 ≡ walk_answer one_page 0x1000 = d.answers refl 0x1000 (omega arith) (omega arith) in
    let numbers : (lookup_of first_right 0x1000).number ≡ (walk_answer one_page 0x1000).number = ap (λ (f : Found). f.number) same in
    absurd (omega (arith, numbers, map_says, walk_says))
