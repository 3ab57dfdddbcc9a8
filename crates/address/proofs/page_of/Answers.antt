-- The part of the file that the part names, or the empty one.
use native.Mathlib.Omega.{arith}
use Rattle.address.proofs.Answers.{image_part, pagefile_part, no_bytes}
use Rattle.address.proofs.page_of.Goals as goal

pub overflow_add-image_end : goal.overflow_add-image_end
overflow_add-image_end c = omega (arith, (c.page_part-part.ensures.inside.in_image (omega arith)).0)

pub returns-then-part-eq1 : goal.returns-then-part-eq1
returns-then-part-eq1 c = image_part _ _ _ c.page_part-part.ensures (omega arith)

pub overflow_add-pagefile_end : goal.overflow_add-pagefile_end
overflow_add-pagefile_end c = omega (arith, (c.page_part-part.ensures.inside.in_pagefile (omega arith)).0)

pub returns-then-part-eq2 : goal.returns-then-part-eq2
returns-then-part-eq2 c = pagefile_part _ _ _ c.page_part-part.ensures (omega arith)

pub returns : goal.returns
returns c = no_bytes _ _ _ c.page_part-part.ensures (λ z. omega (arith, z)) (λ z. omega (arith, z))
