-- What the sheet writer hands back, and its promise.
use Rattle.std.specs.Prelude.{ℕ, ◌*◌, ◌%◌, ◌<◌, ◌≤◌, ◌≡◌, not, List, ltb, length, get_or, take, if◌then◌else◌}
use Rattle.base.specs.Written.{WriteOutcome, unwritten, written}
use Rattle.base.specs.declared.Refusal.TheVariants.{OutOfLimits, BadRun, SheetBufferShort}
use Rattle.base.specs.declared.Written.{Written}
use Rattle.varint.specs.Reader.{got}
use Rattle.entry.specs.Pages.{frame}
use Rattle.sheet.specs.Sheet.{mode_number, place_of, paging_mode, run_pages, Sheet, sheet_of}
use Rattle.sheet_limits.specs.Write.{in_limits, runs_of, starts_of, lengths_of, sound_runs, joined_runs, sheet_bytes}

-- what is written: the directory page and its paging mode, and the given runs with those that touch joined
abbrev pub given_sheet : ℕ → ℕ → ℕ → List ℕ → List ℕ → Sheet
given_sheet directory mode place starts lengths = record {
  space = record { directory = frame directory; mode = paging_mode mode place };
  runs = joined_runs (runs_of starts lengths);
}

-- 17 exactly if the sheet is longer than the buffer; bytes past the sheet stay
abbrev pub sheet_outcome : Sheet → List ℕ → WriteOutcome
sheet_outcome s out =
    if ltb (length out) (length (sheet_bytes s)) then unwritten out SheetBufferShort else
    written out (sheet_bytes s)

-- 12, then 13, then 17
unfoldable pub write_sheet : ℕ → ℕ → ℕ → List ℕ → List ℕ → List ℕ → WriteOutcome
write_sheet directory mode place starts lengths out =
    if not (in_limits directory mode place starts lengths) then unwritten out OutOfLimits else
    if not (sound_runs (runs_of starts lengths)) then unwritten out BadRun else
    sheet_outcome (given_sheet directory mode place starts lengths) out

-- every element is a byte, as in a slice of bytes
abbrev pub AreBytes : List ℕ → Type 0
AreBytes s = (k : ℕ) → get_or s k 0 < 256

-- the call's promise
pub record WriteAnswer (directory mode place : ℕ) (starts lengths old : List ℕ) (r : Written) (new : List ℕ) : Type 0 where
  pub same : record { answer = r; buffer = new } ≡ write_sheet directory mode place starts lengths old
  -- the written bytes, with an image of as many pages and a pagefile of whole pages, are accepted as this directory page, paging mode and the joined runs
  pub reads_back : r.number ≡ 0
      → (pagefile : ℕ)
      → pagefile % 4096 ≡ 0
      → sheet_of (take r.length new) (4096 * run_pages (joined_runs (runs_of starts lengths))) pagefile ≡ got (given_sheet directory mode place starts lengths) r.length
  -- where an accepted sheet says this directory page, paging mode and these runs, its bytes are written
  pub writes_again : (bytes : List ℕ) (image pagefile : ℕ) (s : Sheet) (at : ℕ)
      → AreBytes bytes
      → sheet_of bytes image pagefile ≡ got s at
      → s.space.directory.0 ≡ directory
      → mode_number s.space.mode ≡ mode
      → place_of s.space.mode ≡ place
      → starts_of s.runs ≡ starts
      → lengths_of s.runs ≡ lengths
      → length bytes ≤ length old
      → record { answer = r; buffer = new } ≡ written old bytes
