-- What is still in question gives what the whole gives, after the looks so far.
use Rattle.entry.specs.Pages.{frame}
use Rattle.frames.proofs.Halving.{Going}
use Rattle.frames.proofs.find_page.Given as goal

abbrev pub invariant-loop-left : goal.invariant-loop-left
invariant-loop-left l = Going l.rows (frame l.n) l.low l.left l.looks

abbrev pub decreases-loop-left : goal.decreases-loop-left
decreases-loop-left l = l.left
