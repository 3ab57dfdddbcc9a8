-- The part for what the address call answers.
use Rattle.address.proofs.Answers.{paged}
use Rattle.address.proofs.page_part.Goals as goal

pub returns : goal.returns
returns c = rw c.into.ensures (paged _ _ _ c.resolve_long.ensures)
