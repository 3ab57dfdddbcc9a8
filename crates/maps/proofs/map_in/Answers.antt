-- The measuring pass writes nothing into its empty part; the second pass writes the map where the first found it to fit.
use mathlib.Core.Path.{sym, ◌∙◌}
use Rattle.maps.proofs.Ranges.{placed_allowed}
use Rattle.maps.proofs.Mapping.{bad_range, short_map, full_map}
use Rattle.maps.proofs.map_in.Goals as goal

pub returns-then-not-is_allowed : goal.returns-then-not-is_allowed
returns-then-not-is_allowed c = rw c.into.ensures (bad_range _ _ _ _ (placed_allowed _ _ _ ∙ sym c.is_allowed.ensures ∙ c.if-not-is_allowed.true))

pub invariant_of-range : goal.invariant_of-range
invariant_of-range c = record { tested = sym c.is_allowed.ensures ∙ c.if-not-is_allowed.false; small = c.requires }

pub returns-then-out-length : goal.returns-then-out-length
returns-then-out-length c =
    rw c.into-then-out-length.ensures
    (short_map _ _ _ _ (placed_allowed _ _ _ ∙ sym c.is_allowed.ensures ∙ c.if-not-is_allowed.false) _ _ c.write_map-length.ensures c.if-out-length.true)

pub returns : goal.returns
returns c =
    full_map _ _ _ _ (placed_allowed _ _ _ ∙ sym c.is_allowed.ensures ∙ c.if-not-is_allowed.false) _ _ c.write_map-length.ensures c.if-out-length.false _ _
    c.write_map.ensures
