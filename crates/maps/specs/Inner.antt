-- What the map call makes of an opened case.
use Rattle.std.specs.Prelude.{ℕ, List, Result, Ok, Err, length, ltb, if◌then◌else◌}
use Rattle.std.proofs.lemmas.List.Edits.{sets}
use Rattle.base.specs.Refusal.{unplaced}
use Rattle.base.specs.declared.Fault.{Fault}
use Rattle.base.specs.declared.Refusal.TheVariants.{BadMapRange, MapBufferShort}
use Rattle.walk.specs.Walk.{World}
use Rattle.maps.specs.MapOf.{allowed, map_of}

-- the length of the map, and the buffer with it; or 44
abbrev pub map_fits : List ℕ → List ℕ → Result ℕ Fault × List ℕ
map_fits out map = if ltb (length out) (length map) then (Err (unplaced MapBufferShort), out) else (Ok (length map), sets out 0 map)

-- the range, then 44
abbrev pub map_into : World → ℕ → ℕ → List ℕ → Result ℕ Fault × List ℕ
map_into w start count out = if allowed w.space.mode start count then map_fits out (map_of w start count) else (Err (unplaced BadMapRange), out)
