-- The part that the page call found, and its bytes.
use Rattle.address.proofs.Answers.{part_bytes_lem}
use Rattle.capi.proofs.glint_page.Goals as goal

pub returns-clause-bytes : goal.returns-clause-bytes
returns-clause-bytes c = part_bytes_lem _ _ _ c.page_part.ensures
