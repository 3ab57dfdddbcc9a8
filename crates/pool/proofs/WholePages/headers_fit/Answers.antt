-- As many places as words are enough.
use mathlib.Core.Path.{sym, ◌∙◌}
use borrow.Author.Tests.{le-leb}
use Rattle.pool.proofs.Meaning.{room_for_words}
use Rattle.pool.proofs.WholePages.headers_fit.Goals as goal

pub returns-then-self-places : goal.returns-then-self-places
returns-then-self-places c = le-leb _ _ c.if-self-places.true ∙ sym (room_for_words c.args.self.image.now c.args.places c.args.self.whole c.if-self-places.true)
