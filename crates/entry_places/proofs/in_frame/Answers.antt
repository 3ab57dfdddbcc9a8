-- A page that the lookup gives lies in the image.
use native.Mathlib.Omega.{arith}
use Rattle.frames.proofs.Guard.{located}
use Rattle.entry_places.proofs.in_frame.Goals as goal

pub overflow_mul-result : goal.overflow_mul-result
overflow_mul-result c = omega (arith, located _ _ _ _ c.locate.ensures c.in-Some.is)

pub overflow_add-result : goal.overflow_add-result
overflow_add-result c = omega (arith, located _ _ _ _ c.locate.ensures c.in-Some.is)
