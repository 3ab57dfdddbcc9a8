-- Two or three numbers written one after another.
use mathlib.Core.Path.{sym, ◌∙◌}
use Rattle.map_format.proofs.Returns.{wrote_page, wrote_no_page}
use Rattle.map_format.proofs.write_extent.Goals as goal

pub returns-then-has_file_page : goal.returns-then-has_file_page
returns-then-has_file_page c =
    wrote_page c.args.e (sym c.has_file_page.ensures ∙ c.if-has_file_page.true) c.write_number-at.ensures c.write_number-at-2.ensures c.write_number.ensures

pub returns-else-has_file_page : goal.returns-else-has_file_page
returns-else-has_file_page c =
    wrote_no_page c.args.e (sym c.has_file_page.ensures ∙ c.if-has_file_page.false) c.write_number-at.ensures c.write_number-at-2.ensures
