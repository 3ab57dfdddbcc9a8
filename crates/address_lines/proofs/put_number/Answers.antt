-- The digits, then the byte after them.
use mathlib.Core.Path.{◌∙◌}
use native.Mathlib.Omega.{arith}
use Rattle.address_lines.proofs.Laying.{copied, few_digits, field_laid}
use Rattle.address_lines.proofs.put_number.Goals as goal

pub returns-clause-wrote : goal.returns-clause-wrote
returns-clause-wrote c =
    let args = c.args in
    let digits = c.as_bytes-digits.result.now in
    let spelt = c.as_bytes-digits.ensures.value ∙ c.format.ensures.text in
    let few = few_digits args.n c.ranges.n.fits digits spelt in
    field_laid args.n c.ranges.n.fits digits spelt args.out.now _ args.at args.last (copied args.out.now digits c.copy_from_slice.new.self args.at (omega arith) c.copy_from_slice.ensures.after)
