-- The loop keeps `Mapping`: the builder has taken the pages so far; at its end the header, these pages and the open extent are the map.
use Rattle.resolution.specs.Open.{open_world}
use Rattle.maps.proofs.Mapping.{Mapping}
use Rattle.maps.proofs.Range.write_map.Given as goal

abbrev pub invariant-loop-i : goal.invariant-loop-i
invariant-loop-i l = Mapping (open_world l.self.case) l.self.start l.self.pages l.initial.out l.initial.builder l.i l.out l.builder
