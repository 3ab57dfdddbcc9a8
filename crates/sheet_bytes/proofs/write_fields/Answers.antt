-- The header, then the joined runs, whose number it has.
use native.Mathlib.Omega.{arith}
use Rattle.sheet_bytes.proofs.Lengths.{header_length}
use Rattle.sheet_bytes.proofs.Writing.{count_most, wrote_sheet}
use Rattle.sheet_bytes.proofs.write_fields.Goals as goal

pub write_header-at-requires : goal.write_header-at-requires
write_header-at-requires c = let ready = c.requires in (ready.directory, (ready.place, omega (arith, count_most ready c.args.runs.given)))

pub write_runs-requires : goal.write_runs-requires
write_runs-requires c = (omega (arith, c.write_header-at.ensures.place, header_length c.args.header c.requires.place (count_most c.requires c.args.runs.given)), c.requires.order)

pub returns : goal.returns
returns c = wrote_sheet c.args.header _ c.requires.count c.write_header-at.ensures c.write_runs.ensures
