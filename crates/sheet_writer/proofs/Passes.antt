-- When a measuring pass is needed, and what the writing one answers where the sheet fits.
use Rattle.std.specs.Prelude.{Ok}
use mathlib.Core.Path.{◌≡◌}
use mathlib.Core.List.{List}
use Prim.Native.Nat.{ℕ, ◌≤◌}
use native.Mathlib.Omega.{arith}
use lib.ListN.{length}
use borrow.Author.Tests.{le-ltb}
use Rattle.base.specs.Overlay.{Wrote}
use Rattle.sheet.specs.Sheet.{Sheet}
use Rattle.sheet.specs.declared.Header.{Header}
use Rattle.sheet_limits.specs.Write.{runs_of, joined_runs, sheet_bytes}
use Rattle.sheet_limits.specs.Inner.{Given}
use Rattle.sheet_bytes.specs.Inner.{written_sheet, Ready}
use Rattle.sheet_bytes.proofs.Lengths.{sheet_length}
use Rattle.sheet_bytes.proofs.Writing.{count_most}
use Rattle.sheet_writer.specs.Call.{sheet_outcome}
use Rattle.sheet_writer.specs.Inner.{answered}

-- no sheet is longer: a buffer of so many bytes needs no measuring
pub sheet_most : {h : Header} {ss ls : List ℕ} → Ready h ss ls → Given ss ls → length (sheet_bytes (written_sheet h ss ls)) ≤ 12011
sheet_most {h} {ss} {ls} q g =
    let few : length (joined_runs (runs_of ss ls)) ≤ 1000 = omega (arith, q.count, count_most q g) in
    omega (arith, sheet_length (written_sheet h ss ls) q.place few)

pub full_sheet : (s : Sheet) {old new : List ℕ} {r : ℕ} → length (sheet_bytes s) ≤ length old → Wrote old 0 (sheet_bytes s) r new → answered (Ok r) new ≡ sheet_outcome s old
full_sheet s {old} {new} {r} l p =
    let e : r ≡ length (sheet_bytes s) = omega (arith, p.place) in
    rw (le-ltb (length old) (length (sheet_bytes s)) l, e, p.bytes)
