-- What is read of the opened case is what is read of the case.
use Rattle.std.proofs.Common.{rules}
use Rattle.reading.proofs.TwoPasses.{case_read}
use Rattle.reading.proofs.read_case.Goals as goal

pub returns : goal.returns
returns c = case_read _ c.args.address c.args.n _ _ _ _ c.with_case.ensures (λ o lent left r h. search rules)
