-- The entries read so far, and the descent from where the loop stands, are the whole descent.
use lib.ListN.{length}
use Rattle.frames.specs.Rows.{rows_page}
use Rattle.walk.proofs.Loop.{Going}
use Rattle.tables.proofs.descend_from.Given as goal

abbrev pub invariant-loop-below : goal.invariant-loop-below
invariant-loop-below l = Going l.mode l.rows l.image (rows_page l.rows (length l.image) l.fn.top) l.address l.offset l.table l.below l.entries

abbrev pub decreases-loop-below : goal.decreases-loop-below
decreases-loop-below l = l.below
