-- The prototype entries left fall.
use Rattle.std.proofs.Common.{◌+◌, ◌*◌}
use Rattle.resolution.proofs.+prototype_resolve.Given as goal

abbrev pub decreases-prototype : goal.decreases-prototype
decreases-prototype l = 2 * l.left

abbrev pub decreases-resolve : goal.decreases-resolve
decreases-resolve l = 2 * l.left + 1
