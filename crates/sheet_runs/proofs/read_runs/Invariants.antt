-- The rows so far and the runs still to read are the whole; a refused run leaves the numbers free.
use Rattle.sheet.proofs.ManyRuns.{Reading}
use Rattle.sheet_runs.proofs.read_runs.Given as goal

abbrev pub invariant-loop-i : goal.invariant-loop-i
invariant-loop-i l = Reading l.s l.from l.count l.initial.rows l.rows l.at l.i l.least l.end l.pages
