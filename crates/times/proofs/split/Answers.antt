-- Seconds of a time below 2^63 are below 2^40, the rest below 2^24: both casts are defined.
use mathlib.Core.Path.{refl}
use native.Mathlib.Omega.{arith}
use Rattle.times.proofs.Doubles.{castable}
use Rattle.times.proofs.split.Goals as goal

pub int_to_float-result : goal.int_to_float-result
int_to_float-result c = castable _ (omega arith)

pub int_to_float-result-2 : goal.int_to_float-result-2
int_to_float-result-2 c = castable _ (omega arith)

pub returns : goal.returns
returns c = refl
