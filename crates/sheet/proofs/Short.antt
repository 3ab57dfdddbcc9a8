-- How many runs a sheet has: few if its count says so.
use mathlib.Core.Path.{◌≡◌, sym, ap, ◌∙◌}
use mathlib.Core.List.{List}
use mathlib.Core.Bool.{true}
use Prim.Native.Nat.{ℕ, ◌≤◌}
use native.Mathlib.Omega.{arith}
use lib.ListN.{length}
use borrow.Author.Tests.{leb-true}
use Rattle.varint.specs.Reader.{got}
use Rattle.sheet.specs.Sheet.{header, Sheet, sheet_of}
use Rattle.sheet.specs.Inner.{few_runs}
use Rattle.sheet.specs.declared.Header.{Header}
use Rattle.sheet.proofs.AcceptedCase.{runs_chain, sheet_parts}

few_header : (s : List ℕ) (h : Header) (next : ℕ) → header s 0 ≡ got h next → few_runs (header s 0) ≡ true → h.count ≤ 32
few_header s h next e f = leb-true h.count 32 (sym (ap few_runs e) ∙ f)

pub few_runs_lem : (s : List ℕ) (image pagefile : ℕ) (t : Sheet) (next : ℕ) → sheet_of s image pagefile ≡ got t next → few_runs (header s 0) ≡ true → length t.runs ≤ 32
few_runs_lem s image pagefile t next e f =
    let p = (sheet_parts s image pagefile t next e).own in
    let many : length t.runs ≡ p.fields.count = (runs_chain p.fields.count 0 0 s p.at t.runs (length s) p.runs_read).many in
    omega (arith, many, few_header s p.fields p.at p.header_read f)
