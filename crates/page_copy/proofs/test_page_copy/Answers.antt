-- The page's bytes are laid, and their number is its length.
use Rattle.page_copy.proofs.Laying.{wrote_page}
use Rattle.page_copy.proofs.test_page_copy.Goals as goal

pub returns : goal.returns
returns c = wrote_page _ _ _ _ c.page_of-page.ensures.same c.copy.ensures
