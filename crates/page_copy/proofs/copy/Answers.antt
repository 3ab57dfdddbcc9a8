-- The next byte is laid; past the part that fits nothing is.
use mathlib.Core.Path.{◌∙◌}
use native.Mathlib.Omega.{arith}
use Rattle.page_copy.proofs.Laying.{next_laid, part_laid}
use Rattle.page_copy.proofs.copy.Goals as goal

pub loop-i-preserved : goal.loop-i-preserved
loop-i-preserved c = next_laid _ _ _ _ c.loop-i.invariant (omega arith)

pub returns : goal.returns
returns c = c.loop-i.invariant.1 ∙ part_laid c.args.out.now c.args.page.now c.loop-i.i (omega arith)
