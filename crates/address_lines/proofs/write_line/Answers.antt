-- Three fields, one after another.
use native.Mathlib.Omega.{arith}
use Rattle.address_lines.proofs.Laying.{line_laid}
use Rattle.address_lines.proofs.write_line.Goals as goal

pub returns : goal.returns
returns c =
    let whole = line_laid c.resolve_address-found.result c.args.out.now c.put_number-offset_at.result c.put_number-entries_at.result c.put_number.result c.put_number-offset_at.new.out c.put_number-entries_at.new.out c.put_number.new.out c.put_number-offset_at.ensures.wrote c.put_number-entries_at.ensures.wrote c.put_number.ensures.wrote (omega (arith, c.put_number-offset_at.ensures.upper_bound, c.put_number-entries_at.ensures.upper_bound, c.put_number.ensures.upper_bound)) in
    rw (← c.resolve_address-found.ensures.same) whole
