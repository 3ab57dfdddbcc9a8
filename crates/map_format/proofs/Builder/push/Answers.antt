-- The page belongs to the open extent, which is longer then, or that extent is written and the page opens the next.
use mathlib.Core.Path.{◌≡◌, sym, ◌∙◌}
use mathlib.Core.Bool.{false}
use Rattle.map_format.specs.Build.{follows_of}
use Rattle.map_format.proofs.Returns.{longer, opened}
use Rattle.map_format.proofs.Builder.push.Goals.{in_default-via-in-Some+else-joins, in_default-via-in_default}
use Rattle.map_format.proofs.Builder.push.Goals as goal

pub returns-in-Some : goal.returns-in-Some
returns-in-Some c = longer c.args.self c.args.page _ _ c.in-Some.is (sym c.joins.ensures ∙ c.if-joins.true)

pub returns-in_default : goal.returns-in_default
unfolding follows_of
returns-in_default c =
    let apart : follows_of c.args.self c.args.page ≡ false = elim c.in_default.branch [
      | in_default-via-in-Some+else-joins w ↦ rw w.in-Some.is (sym w.joins.ensures ∙ w.if-joins.false)
      | in_default-via-in_default w ↦ rw w.in_default.is
    ] in
    opened c.args.self c.args.page apart c.finish.ensures
