-- Each test of the code is a test of the definition, in the same order.
use Rattle.std.proofs.Common.{sym, ◌∙◌}
use Rattle.processor_block.proofs.Fitting.{too_far, unfit_none, elsewhere_none, here_some, own_walk}
use Rattle.processor_block.proofs.WholePages.block_at.Goals as goal

pub returns-then-offset-gt3624 : goal.returns-then-offset-gt3624
returns-then-offset-gt3624 c = unfit_none _ _ (too_far _ _ c.if-offset-gt3624.true)

pub returns-then-not-fits : goal.returns-then-not-fits
returns-then-not-fits c = unfit_none _ _ (sym c.fits.ensures ∙ c.if-not-fits.true)

pub returns-then-not-is_at : goal.returns-then-not-is_at
returns-then-not-is_at c =
    elsewhere_none _ _ _ (own_walk _ _ _ _ _ c.own.ensures c.directory.ensures c.resolve_four_level-found.ensures)
    (sym c.is_at.ensures ∙ c.if-not-is_at.true)

pub returns : goal.returns
returns c =
    here_some _ _ _ (own_walk _ _ _ _ _ c.own.ensures c.directory.ensures c.resolve_four_level-found.ensures)
    c.requires.0 c.requires.1 (sym c.fits.ensures ∙ c.if-not-fits.false) (sym c.is_at.ensures ∙ c.if-not-is_at.false)
