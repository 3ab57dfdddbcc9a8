-- The loop keeps `Mapping`: the builder has taken the pages so far; at its end the header, these pages and the open extent are the map.
use mathlib.Core.Path.{ap, ◌∙◌}
use native.Mathlib.Omega.{arith}
use Rattle.entry.specs.declared.VirtualPage.{VirtualPage}
use Rattle.resolution.specs.Open.{open_world}
use Rattle.walk.proofs.Cycle.{sound_rows}
use Rattle.maps.proofs.Ranges.{allowed_range, placed_allowed, range_top}
use Rattle.maps.proofs.Mapping.{mapping_none, mapping_next, map_written}
use Rattle.maps.proofs.Range.write_map.Goals as goal

pub write_header-at-requires : goal.write_header-at-requires
write_header-at-requires c =
    let start-page = ap (λ (page : VirtualPage). page.0) c.of_address.ensures in
    (omega (arith, start-page), omega (arith, (allowed_range _ _ _ c.args.self.now.tested).most))

pub loop-i-init : goal.loop-i-init
loop-i-init c =
    let world = open_world c.args.self.now.case in
    let header = rw c.of_address.ensures at c.write_header-at.ensures in
    mapping_none world _ _ _ _ (allowed_range _ _ _ c.args.self.now.tested).most header

pub overflow_mul-i : goal.overflow_mul-i
overflow_mul-i c = omega (arith, (allowed_range _ _ _ c.args.self.now.tested).most)

pub overflow_add-self : goal.overflow_add-self
overflow_add-self c = omega (arith, range_top (allowed_range _ _ _ c.args.self.now.tested))

pub loop-i-preserved : goal.loop-i-preserved
loop-i-preserved c =
    let sound = sound_rows _ _ _ _ in
    let found = c.resolve-found.ensures in
    let page = c.mapped_page.ensures in
    let next = mapping_next c.loop-i.invariant sound c.args.self.now.small (placed_allowed c.args.self.now.case.space.mode _ _ ∙ c.args.self.now.tested) c.loop-i-test.true in
    next _ found _ page _ _ c.push-builder.ensures

pub returns : goal.returns
returns c =
    let header = rw c.of_address.ensures at c.write_header-at.ensures in
    map_written header c.loop-i.invariant c.loop-i-test.false c.finish.ensures
