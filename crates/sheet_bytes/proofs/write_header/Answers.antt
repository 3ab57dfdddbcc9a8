-- The fields written one after another.
use native.Mathlib.Omega.{arith}
use Rattle.varint.proofs.Writing.{six_at_most}
use Rattle.sheet_bytes.proofs.Lengths.{edition_most, mode_length}
use Rattle.sheet_bytes.proofs.Writing.{wrote_header}
use Rattle.sheet_bytes.proofs.write_header.Goals as goal

pub write_number-a-requires : goal.write_number-a-requires
write_number-a-requires c = (omega arith, omega (arith, c.edition_of.ensures, edition_most c.args.header.space.mode))

pub write_number-b-requires : goal.write_number-b-requires
write_number-b-requires c = (omega (arith, six_at_most _ c.write_number-a.ensures), omega (arith, c.number.ensures, c.requires.0))

pub write_mode-c-requires : goal.write_mode-c-requires
write_mode-c-requires c = (omega (arith, six_at_most _ c.write_number-a.ensures, six_at_most _ c.write_number-b.ensures), c.requires.1.0)

pub write_number-requires : goal.write_number-requires
write_number-requires c =
    let mode = mode_length c.args.header.space.mode c.requires.1.0 in
    (omega (arith, six_at_most _ c.write_number-a.ensures, six_at_most _ c.write_number-b.ensures, c.write_mode-c.ensures.place, mode), omega (arith, c.requires.1.1))

pub returns : goal.returns
returns c =
    let edition = rw c.edition_of.ensures at c.write_number-a.ensures in
    let directory = rw c.number.ensures at c.write_number-b.ensures in
    wrote_header c.args.header edition directory c.write_mode-c.ensures c.write_number.ensures
