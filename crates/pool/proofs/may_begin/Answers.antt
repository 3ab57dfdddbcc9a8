-- Under the mask: below a BlockSize of 1 nothing begins; above the BlockSize a bit of the tag is set.
use native.Mathlib.Omega.{arith}
use Rattle.pool.proofs.Beginning.{in_field, below_field}
use Rattle.pool.proofs.may_begin.Goals as goal

pub returns-then-field-ge-ONE_BLOCK : goal.returns-then-field-ge-ONE_BLOCK
returns-then-field-ge-ONE_BLOCK c = in_field c.args.word (omega arith)

pub returns-else-field-ge-ONE_BLOCK : goal.returns-else-field-ge-ONE_BLOCK
returns-else-field-ge-ONE_BLOCK c = below_field c.args.word (omega arith)
