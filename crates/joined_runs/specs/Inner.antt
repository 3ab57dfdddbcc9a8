-- What judging and joining the given runs answers.
use Rattle.std.specs.Prelude.{ℕ, List, length, Option, Some, None, Result, Ok, Err, if◌then◌else◌}
use Rattle.base.specs.declared.Refusal.{Refusal}
use Rattle.base.specs.declared.Refusal.TheVariants.{BadRun}
use Rattle.entry.specs.Pages.{frame}
use Rattle.sheet.specs.declared.Run.{Run}
use Rattle.sheet_limits.specs.Write.{follows, touches, as_one, joined_runs, sound_runs}

-- the run of a start and a length
abbrev pub given_run : ℕ → ℕ → Run
given_run start pages = record { first = frame start; pages = pages }

abbrev pub counted_runs : List Run → Result ℕ Refusal
counted_runs rs = if sound_runs rs then Ok (length (joined_runs rs)) else Err BadRun

-- a run that can be given after one that ends at the page `end`
abbrev pub run_after : ℕ → Run → Result Run Refusal
run_after end r = if follows end r then Ok r else Err BadRun

-- two runs as one, where they touch
abbrev pub joined_run : Run → Run → Option Run
joined_run last r = if touches last r then Some (as_one last r) else None
