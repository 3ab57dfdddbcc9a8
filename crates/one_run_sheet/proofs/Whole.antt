-- A sheet of edition 1 with one run, from its five numbers.
use Rattle.std.specs.Prelude.{Some}
use mathlib.Core.Path.{◌≡◌, refl, ap}
use mathlib.Core.List.{List}
use Prim.Native.Nat.{ℕ, ◌+◌, ◌*◌, ◌%◌, ◌^◌, ◌≤◌}
use native.Mathlib.Omega.{arith}
use lib.ListN.{length}
use borrow.Author.Tests.{eq-eqb}
use Rattle.varint.specs.Reader.{got}
use Rattle.varint.specs.Groups.{number}
use Rattle.entry.specs.Pages.{frame}
use Rattle.entry.specs.declared.Frame.{Frame}
use Rattle.sheet.specs.Sheet.{header, runs_from, own_fields, sheet_fields, sheet_of}
use Rattle.sheet.proofs.OneRun.{run_read_lem}
use Rattle.one_run_sheet.specs.OneRun.{one_run_sheet, Told}

pub told : (s : List ℕ) (image pagefile edition a directory b count c gap d pages end : ℕ)
    → edition ≡ 1 → number s 0 ≡ got edition a → number s a ≡ got directory b → count ≡ 1 → number s b ≡ got count c → number s c ≡ got gap d → number s d ≡ got pages end
    → end ≡ length s → (pages ≡ 0 → ⊥) → gap + pages ≤ 2 ^ 36 → image ≡ 4096 * pages → pagefile % 4096 ≡ 0
    → (top first : Frame) → top ≡ frame directory → first ≡ frame gap → Told (sheet_of s image pagefile) (length s) (Some (top, record { first = first; pages = pages }))
unfolding sheet_of sheet_fields own_fields header runs_from
told s image pagefile edition a directory b count c gap d pages end one e₁ e₂ single e₃ e₄ e₅ whole some under i p top first et ef =
    let run = run_read_lem s c 0 0 gap d e₄ pages (length s) (rw whole at e₅) (omega arith) some (omega arith) in
    record {
      accepted = rw (e₁, one, e₂, e₃, single, run, eq-eqb (length s) (length s) refl, eq-eqb image (4096 * (pages + 0)) (omega arith), eq-eqb (pagefile % 4096) 0 p, et, ef)
          (ap (λ (k : ℕ). got (one_run_sheet (frame directory) (record { first = frame k; pages = pages })) (length s)) (omega arith));
    }
