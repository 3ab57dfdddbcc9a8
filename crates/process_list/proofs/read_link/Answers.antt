-- The word lies in its file, and is the one of the case's own world, which has four levels.
use Rattle.std.proofs.Common.{◌∙◌}
use Rattle.walk.specs.Rows.{four_levels}
use Rattle.walk.proofs.Cycle.{word_found}
use Rattle.process_list.proofs.Links.{link_placed}
use Rattle.process_list.proofs.read_link.Goals as goal

pub link_at-requires : goal.link_at-requires
link_at-requires c = word_found c.args.case.now.case.rows.now (four_levels c.args.case.now.case.space.directory) _ _ _ _ _ c.resolve_four_level-found.ensures c.args.link.aligned

pub returns : goal.returns
returns c = c.link_at.ensures ∙ link_placed c.args.case.now.case c.args.case.now.four _ _ c.resolve_four_level-found.ensures
