-- Demand 3, for an accepted case with the world w, an allowed range and a lent buffer.
use Rattle.std.specs.Prelude.{ℕ, ◌+◌, ◌*◌, ◌/◌, ◌-◌, ◌≤◌, ◌<◌, ◌≡◌, List, length, take}
use Rattle.base.specs.Refusal.{refusal_number}
use Rattle.base.specs.Written.{WriteOutcome}
use Rattle.base.specs.declared.Refusal.TheVariants.{MapBufferShort}
use Rattle.walk.specs.Walk.{World, resolve_of, number_of, offset_of}
use Rattle.map_format.specs.Extents.{page_at, extent_pages, Lengths}
use Rattle.map_format.specs.declared.Extent.{Extent}
use Rattle.lookup.specs.Call.{answer_at, lookup_of}
use Rattle.lookup.specs.declared.Found.{Found}
use Rattle.varint.specs.Reader.{Read, got, refused}
use Rattle.map_format.specs.Reading.{Map, map_fields}
use Rattle.maps.specs.MapOf.{map_of}

-- the page walk's answer: number and offset, as the address call hands them back
abbrev pub walk_answer : World → ℕ → Found
walk_answer w a = record { number = number_of (resolve_of 3 w a).place; offset = offset_of (resolve_of 3 w a).place }

-- a list of extents over the range that answers every address as the walk does: codes and first pages are any numbers
pub record AnswersAsWalk (w : World) (start count : ℕ) (es : List Extent) : Type 0 where
  pub lengths : Lengths es
  pub sum : extent_pages es ≡ count
  pub answers : (a : ℕ) → start ≤ a → a < start + 4096 * count → answer_at a (page_at es ((a - start) / 4096)) ≡ walk_answer w a

-- no list of extents that answers so is shorter than the map that was read
abbrev pub Fewest : World → ℕ → ℕ → Read Map → Type 0
Fewest w start count (got m at) = (es : List Extent) → AnswersAsWalk w start count es → length m.extents ≤ length es
Fewest w start count (refused r) = ⊥

pub record Demand3 (w : World) (start count : ℕ) (old : List ℕ) (out : WriteOutcome) : Type 0 where
  -- refused for room exactly if its bytes are more than the buffer holds, and for nothing else
  pub short : length old < length (map_of w start count) → out.answer.number ≡ refusal_number MapBufferShort
  pub written : length (map_of w start count) ≤ length old → out.answer.number ≡ 0
  -- the written bytes answer every address of the range, whichever byte of whichever page, as the walk does
  pub answers : out.answer.number ≡ 0 → (a : ℕ) → start ≤ a → a < start + 4096 * count → lookup_of (take out.answer.length out.buffer) a ≡ walk_answer w a
  -- they are a map, and no list of extents that answers so is shorter than it
  pub fewest : out.answer.number ≡ 0 → Fewest w start count (map_fields (take out.answer.length out.buffer) 0)
