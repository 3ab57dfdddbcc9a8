-- What reading a sheet of one run hands back.
use Rattle.std.specs.Prelude.{ℕ, ◌≡◌, [], ◌∷◌, Option, Some, None}
use Rattle.varint.specs.Reader.{Read, got}
use Rattle.entry.specs.declared.Frame.{Frame}
use Rattle.entry.specs.declared.PagingMode.TheVariants.{FourLevel}
use Rattle.sheet.specs.Sheet.{Sheet}
use Rattle.sheet.specs.declared.Run.{Run}

-- the sheet of four levels with one run
abbrev pub one_run_sheet : Frame → Run → Sheet
one_run_sheet directory run = record { space = record { directory = directory; mode = FourLevel }; runs = run ∷ [] }

-- a sheet that the check d reads up to `end`, as it is told
abbrev pub told_as : Read Sheet → ℕ → Option (Frame × Run) → Type 0
told_as d end (Some (directory, run)) = d ≡ got (one_run_sheet directory run) end
told_as d end None = Unit {0}

-- which accepted sheets are told, and which are left to be read otherwise, is free
pub record Told (d : Read Sheet) (end : ℕ) (r : Option (Frame × Run)) : Type 0 where
  pub accepted : told_as d end r
