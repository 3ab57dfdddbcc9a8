-- 01 "Maps": the builder takes one page at a time and hands itself back.
use Rattle.std.specs.Prelude.{◌≡◌, Bool, false, List, [], ◌∷◌, ◌++◌, ℕ, ◌+◌, ◌*◌, ◌^◌, ◌<◌, length, if◌then◌else◌, Option, None, Some, unwrap_or}
use Rattle.std.proofs.lemmas.List.Edits.{sets}
use Rattle.map_format.specs.Extents.{extent, no_extent, joins}
use Rattle.map_format.specs.Layout.{extent_bytes}
use Rattle.map_format.specs.declared.Builder.{Builder}
use Rattle.map_format.specs.declared.Extent.{Extent}
use Rattle.map_format.specs.declared.MappedPage.{MappedPage}

-- the open extent, or none
abbrev pub open_extent : Builder → Extent
open_extent b = unwrap_or b.last no_extent

abbrev pub bytes_of : Option Extent → List ℕ
bytes_of None = []
bytes_of (Some e) = extent_bytes e

-- the bytes of the open extent
unfoldable pub open_bytes : Builder → List ℕ
open_bytes b = bytes_of b.last

abbrev pub joined_to : Option Extent → MappedPage → Bool
joined_to None p = false
joined_to (Some e) p = joins e p.code p.file

-- does a page belong to the open extent?
unfoldable pub follows_of : Builder → MappedPage → Bool
follows_of b p = joined_to b.last p

-- the builder after one page, and what it writes for it
unfoldable pub after_page : Builder → MappedPage → Builder
after_page b p =
    let e = open_extent b in
    if follows_of b p
    then record { at = b.at; last = Some (extent e.code (e.pages + 1) e.first) }
    else record { at = b.at + length (open_bytes b); last = Some (extent p.code 1 p.file) }

unfoldable pub written_for : Builder → MappedPage → List ℕ
written_for b p = if follows_of b p then [] else open_bytes b

-- the builder after pages, and what it writes for them
abbrev pub after_pages : Builder → List MappedPage → Builder
after_pages b [] = b
after_pages b (p ∷ ps) = after_pages (after_page b p) ps

abbrev pub written_for_all : Builder → List MappedPage → List ℕ
written_for_all b [] = []
written_for_all b (p ∷ ps) = written_for b p ++ written_for_all (after_page b p) ps

-- the builder b over the buffer o has taken the pages ps
pub record PagesTaken (o : List ℕ) (b : Builder) (ps : List MappedPage) (o' : List ℕ) (b' : Builder) : Type 0 where
  pub state : b' ≡ after_pages b ps
  pub bytes : o' ≡ sets o b.at (written_for_all b ps)

-- room in the builder's numbers for k more pages; an extent has 18 bytes at most
pub record RoomFor (b : Builder) (k : ℕ) : Type 0 where
  pub place : b.at + 18 * k < 2 ^ 61
  pub pages : (open_extent b).pages + k < 2 ^ 39
  pub code : (open_extent b).code < 2 ^ 40
  pub first : (open_extent b).first < 2 ^ 40
