-- The piece lies in the file that the walk leads to.
use mathlib.Core.Path.{ap}
use Rattle.walk.specs.declared.Resolved.{Resolved}
use Rattle.reading.proofs.PageBytes.{piece_at}
use Rattle.reading.proofs.fill_page.Goals as goal

pub lay-requires : goal.lay-requires
lay-requires c = rw (ap (λ (z : Resolved). z.place) c.resolve.ensures) (piece_at c.args.case.now _ _ c.requires)
