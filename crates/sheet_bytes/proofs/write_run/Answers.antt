-- The gap and the length, written one after the other.
use native.Mathlib.Omega.{arith}
use Rattle.varint.proofs.Writing.{six_at_most}
use Rattle.sheet_bytes.proofs.Writing.{wrote_run}
use Rattle.sheet_bytes.proofs.write_run.Goals as goal

pub write_number-requires : goal.write_number-requires
write_number-requires c = (omega (arith, six_at_most _ c.write_number-a.ensures, c.requires), omega (arith, c.requires, c.args.run.top))

pub returns : goal.returns
returns c = wrote_run c.args.end c.args.run.run (rw c.number.ensures at c.write_number-a.ensures) c.write_number.ensures
