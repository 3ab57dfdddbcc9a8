-- A word that cannot begin a block holds no header; another does as the block and its neighbours say.
use mathlib.Core.Path.{sym, ◌∙◌}
use Rattle.pool.proofs.Fitting.{cannot_begin, chained}
use Rattle.pool.proofs.WholePages.is_header.Goals as goal

pub returns-then-may_begin : goal.returns-then-may_begin
returns-then-may_begin c =
    let begins = rw c.word_at-word.ensures at (sym c.may_begin.ensures ∙ c.if-may_begin.true) in
    rw c.word_at-word.ensures at c.is_chained.ensures ∙ chained c.args.self.image.now c.args.o c.requires.0 c.requires.1 begins

pub returns-else-may_begin : goal.returns-else-may_begin
returns-else-may_begin c =
    let cannot = rw c.word_at-word.ensures at (sym c.may_begin.ensures ∙ c.if-may_begin.false) in
    c.if-may_begin.false ∙ sym (cannot_begin c.args.self.image.now c.args.o cannot)
