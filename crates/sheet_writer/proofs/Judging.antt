-- What was judged: the two refusals, and that the header of what is in order is ready to be written.
use Rattle.std.specs.Prelude.{Result, Ok, Err, if◌then◌else◌}
use mathlib.Core.Path.{◌≡◌, refl, ap}
use mathlib.Core.Bool.{Bool, true, false, not}
use mathlib.Core.List.{List}
use Prim.Native.Nat.{ℕ}
use lib.Dec.{leb}
use lib.ListN.{length}
use Rattle.base.specs.Written.{unwritten}
use Rattle.base.specs.declared.Refusal.{Refusal}
use Rattle.base.specs.declared.Refusal.TheVariants.{OutOfLimits, BadRun}
use Rattle.base.proofs.Test.{both_true}
use Rattle.entry.specs.Pages.{frame}
use Rattle.sheet.specs.Sheet.{is_place, paging_mode}
use Rattle.sheet.specs.declared.Header.{Header}
use Rattle.sheet.proofs.Modes.{in_page_lem}
use Rattle.sheet_limits.specs.Write.{in_limits, runs_of, in_order, joined_runs, sound_runs}
use Rattle.sheet_limits.proofs.Limits.{in_mode, limits}
use Rattle.joined_runs.specs.Inner.{counted_runs}
use Rattle.sheet_bytes.specs.Inner.{written_sheet, Ready}
use Rattle.sheet_writer.specs.Call.{given_sheet, sheet_outcome, write_sheet}
use Rattle.sheet_writer.specs.Inner.{answered}

module _ (directory mode place : ℕ) (starts lengths : List ℕ) where
  pub out_of_limits : in_limits directory mode place starts lengths ≡ false → (old : List ℕ) → answered (Err OutOfLimits) old ≡ write_sheet directory mode place starts lengths old
  unfolding write_sheet
  out_of_limits h old = rw h

  module _ (h : in_limits directory mode place starts lengths ≡ true) where
    pub bad_run : (x : Refusal) → Err x ≡ counted_runs (runs_of starts lengths) → (old : List ℕ) → answered (Err x) old ≡ write_sheet directory mode place starts lengths old
    unfolding write_sheet
    bad_run x e old = rw h (go (sound_runs (runs_of starts lengths)) e)
      where
        go : (b : Bool) → Err x ≡ (if b then Ok (length (joined_runs (runs_of starts lengths))) else Err BadRun)
            → answered (Err x) old ≡ (if not b then unwritten old BadRun else sheet_outcome (given_sheet directory mode place starts lengths) old)
        go true y = absurd (cc)
        go false y = let same : x ≡ BadRun = cc in ap (unwritten old) same

    module _ (n : ℕ) (e : Ok n ≡ counted_runs (runs_of starts lengths)) where
      sound : (sound_runs (runs_of starts lengths) ≡ true) × (n ≡ length (joined_runs (runs_of starts lengths)))
      sound = go (sound_runs (runs_of starts lengths)) e
        where
          go : (b : Bool) → Ok n ≡ (if b then Ok (length (joined_runs (runs_of starts lengths))) else Err BadRun) → (b ≡ true) × (n ≡ length (joined_runs (runs_of starts lengths)))
          go true y = (refl, cc)
          go false y = absurd (cc)

      abbrev pub header : Header
      header = record { space = record { directory = frame directory; mode = paging_mode mode place }; count = n }

      pub ready : Ready header starts lengths
      ready =
          let p = limits directory mode place starts lengths h in
          record {
            directory = p.0;
            place = in_page_lem mode place (both_true (leb mode 2) (is_place mode place) (in_mode directory mode place starts lengths h)).1;
            order = (both_true (in_order 0 (runs_of starts lengths)) _ sound.0).0;
            count = sound.1;
          }

      pub judged : (old new : List ℕ) (r : Result ℕ Refusal) → answered r new ≡ sheet_outcome (written_sheet header starts lengths) old → answered r new ≡ write_sheet directory mode place starts lengths old
      unfolding write_sheet
      judged old new r y = rw (h, sound.0) y
