-- The entries read so far, and the descent from where the loop stands, are the whole descent.
use mathlib.Core.Path.{sym, ◌∙◌}
use Rattle.entry.specs.Entry.{level_of}
use Rattle.walk.proofs.Loop.{no_entry, an_entry, stopped, ended, again, last}
use Rattle.tables.proofs.descend_from.Goals as goal

pub returns-in_default : goal.returns-in_default
returns-in_default c = rw c.no_table.ensures (stopped c.loop-below.invariant (no_entry _ (level_of c.args.mode c.loop-below.below) _ _ _ _ c.table_entry.ensures c.in_default.is))

pub loop-below-preserved : goal.loop-below-preserved
loop-below-preserved c = again c.loop-below.invariant c.loop-below-test.true _ (an_entry _ _ _ _ _ _ _ c.table_entry.ensures c.in-Some.is) _ _ (sym c.upper_at.ensures ∙ c.in-Table.is) c.locate-table-in-Table.ensures

pub returns-in-LargePage : goal.returns-in-LargePage
returns-in-LargePage c =
    rw c.ended.ensures
    (ended c.loop-below.invariant c.loop-below-test.true _ (an_entry _ _ _ _ _ _ _ c.table_entry.ensures c.in-Some.is) _ (λ next. rw (sym c.upper_at.ensures ∙ c.in-LargePage.is)))

pub returns-in-Refused : goal.returns-in-Refused
returns-in-Refused c =
    rw c.ended-in-Refused.ensures
    (ended c.loop-below.invariant c.loop-below-test.true _ (an_entry _ _ _ _ _ _ _ c.table_entry.ensures c.in-Some.is) _ (λ next. rw (sym c.upper_at.ensures ∙ c.in-Refused.is)))

pub returns-in-UpperNeedsRegion : goal.returns-in-UpperNeedsRegion
returns-in-UpperNeedsRegion c =
    rw c.ended-in-UpperNeedsRegion.ensures
    (ended c.loop-below.invariant c.loop-below-test.true _ (an_entry _ _ _ _ _ _ _ c.table_entry.ensures c.in-Some.is) _ (λ next. rw (sym c.upper_at.ensures ∙ c.in-UpperNeedsRegion.is)))

pub returns-in_default-table_entry : goal.returns-in_default-table_entry
returns-in_default-table_entry c =
    rw c.no_table-in_default-table_entry.ensures (stopped c.loop-below.invariant (no_entry _ (level_of c.args.mode 0) _ _ _ _ c.table_entry-2.ensures c.in_default-table_entry.is))

pub returns : goal.returns
returns c =
    rw (c.ended-2.ensures, c.last_entry.ensures)
    (last c.loop-below.invariant c.loop-below-test.false _ (an_entry _ _ _ _ _ _ _ c.table_entry-2.ensures c.in-Some-table_entry.is))
