-- What writing a judged sheet asks, and what it leaves.
use Rattle.std.specs.Prelude.{ℕ, ◌^◌, ◌≤◌, ◌<◌, ◌≡◌, true, List, [], length, if◌then◌else◌}
use Rattle.base.specs.Overlay.{Wrote}
use Rattle.sheet.specs.Sheet.{end_of, Sheet}
use Rattle.sheet.specs.Inner.{PlaceInPage}
use Rattle.sheet.specs.declared.Header.{Header}
use Rattle.sheet.specs.declared.Run.{Run}
use Rattle.sheet_limits.specs.Write.{runs_of, in_order, touches, as_one, joined_runs, run_bytes}
use Rattle.sheet_bytes.specs.declared.RunWriter.{RunWriter}

abbrev pub written_sheet : Header → List ℕ → List ℕ → Sheet
written_sheet h starts lengths = record { space = h.space; runs = joined_runs (runs_of starts lengths) }

-- numbers and runs that were judged, with the header of their sheet
pub record Ready (h : Header) (starts lengths : List ℕ) : Type 0 where
  pub directory : h.space.directory.0 < 2 ^ 36
  pub place : PlaceInPage h.space.mode
  pub order : in_order 0 (runs_of starts lengths) ≡ true
  pub count : h.count ≡ length (joined_runs (runs_of starts lengths))

-- what the writer's last run asks to be written
pub record Room (w : RunWriter) : Type 0 where
  pub place : w.at < 2 ^ 62
  pub gap : w.end ≤ w.last.run.first.0

-- what is written for the next run, and the page at which the written runs then end
unfoldable pub written_for : RunWriter → Run → List ℕ
written_for w r = if touches w.last.run r then [] else run_bytes w.end w.last.run

unfoldable pub end_after : RunWriter → Run → ℕ
end_after w r = if touches w.last.run r then w.end else end_of w.last.run

-- the last of the joined runs after the next run
unfoldable pub last_after : Run → Run → Run
last_after last r = if touches last r then as_one last r else r

-- the writer over the buffer o has taken the next run
pub record RunTaken (o : List ℕ) (w : RunWriter) (r : Run) (o' : List ℕ) (w' : RunWriter) : Type 0 where
  pub bytes : Wrote o w.at (written_for w r) w'.at o'
  pub end : w'.end ≡ end_after w r
  pub last : w'.last.run ≡ last_after w.last.run r
