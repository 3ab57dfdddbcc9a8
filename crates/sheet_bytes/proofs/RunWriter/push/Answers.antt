-- A run that touches makes the last one longer; before another the last one is written.
use Rattle.std.proofs.Common.{refl}
use Rattle.sheet_bytes.proofs.Writing.{took_touching, took_apart}
use Rattle.sheet_bytes.proofs.RunWriter.push.Goals as goal

pub returns-in-Some : goal.returns-in-Some
returns-in-Some c = took_touching c.args.self c.args.run.run _ refl refl c.in-Some.ensures _

pub returns-in-None : goal.returns-in-None
returns-in-None c = took_apart c.args.self c.args.run.run c.in-None.ensures c.write_run.ensures _ refl c.end.ensures refl
