-- What the call answers for the length of what was written, or for a refusal.
use Rattle.std.specs.Prelude.{ℕ, List, Result, Ok, Err}
use Rattle.base.specs.Written.{WriteOutcome, not_written}
use Rattle.base.specs.declared.Refusal.{Refusal}
use Rattle.base.specs.declared.Written.{Written}

abbrev pub answer_of : Result ℕ Refusal → Written
answer_of (Ok n) = record { number = 0; length = n }
answer_of (Err r) = not_written r

-- with the lent buffer after it
abbrev pub answered : Result ℕ Refusal → List ℕ → WriteOutcome
answered r out = record { answer = answer_of r; buffer = out }
