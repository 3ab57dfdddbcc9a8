-- Four levels have no bytes; else the two numbers one after another, each of 6 bytes at most.
use native.Mathlib.Omega.{arith}
use Rattle.varint.proofs.Writing.{six_at_most}
use Rattle.sheet.proofs.Modes.{mode_most, place_most}
use Rattle.sheet_bytes.proofs.Writing.{wrote_mode}
use Rattle.sheet_bytes.proofs.write_mode.Goals as goal

pub write_number-a-requires : goal.write_number-a-requires
write_number-a-requires c = (omega (arith, c.requires.0), omega (arith, c.from-numbers.ensures.0, mode_most c.args.mode))

pub write_number-requires : goal.write_number-requires
write_number-requires c = (omega (arith, c.requires.0, six_at_most _ c.write_number-a.ensures), omega (arith, c.from-numbers.ensures.1, place_most c.args.mode c.requires.1))

pub returns : goal.returns
returns c = wrote_mode c.args.mode c.in_default.not-FourLevel (rw c.from-numbers.ensures.0 at c.write_number-a.ensures) (rw c.from-numbers.ensures.1 at c.write_number.ensures)
