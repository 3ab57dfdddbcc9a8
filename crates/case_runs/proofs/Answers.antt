-- What the call hands back, after a reading over an empty part of the buffer and one over the part that the runs take.
use Rattle.std.specs.Prelude.{Result, Ok, Err}
use mathlib.Core.Path.{◌≡◌, refl, sym, ap, ◌∙◌}
use mathlib.Core.List.{List, [], ◌++◌, append-nil}
use Prim.Native.Nat.{ℕ, ◌+◌, ◌*◌, ◌<◌, ◌≤◌}
use native.Mathlib.Nat.{zero-add}
use native.Mathlib.Omega.{arith}
use lib.ListN.{length, take, drop}
use lib.Seq.{sets, sets-eq, length-take-le, drop-length}
use borrow.Author.Tests.{lt-ltb, le-ltb}
use Rattle.base.specs.declared.Fault.{Fault}
use Rattle.base.specs.declared.Refusal.TheVariants.{ListBufferShort}
use Rattle.varint.specs.Reader.{Read, got, refused}
use Rattle.sheet.specs.Sheet.{mode_number, place_of, Sheet, sheet_of}
use Rattle.sheet.specs.Call.{rows_from, sheet_read, SheetAnswer}
use Rattle.sheet.specs.declared.AddressSpace.{AddressSpace}
use Rattle.sheet.specs.declared.Header.{Header}
use Rattle.sheet.proofs.ManyRuns.{rows_length}
use Rattle.sheet.proofs.AcceptedCase.{AcceptedCase, accepted_laws}
use Rattle.case_runs.specs.Call.{run_numbers, case_refusal, fault_case, case_runs_of}
use Rattle.case_runs.specs.Inner.{RowsInOrder, runs_of_rows}
use Rattle.case_runs.specs.declared.CaseRead.{CaseRead}
use Rattle.case_runs.proofs.Rows.{numbers_long, rows_in_order, rows_turned}

-- numbers laid over as many are those numbers
laid_over : (old xs : List ℕ) → length xs ≡ length old → sets old 0 xs ≡ xs
laid_over old xs e =
    let none : drop (0 + length xs) old ≡ [] = rw (e, zero-add) (drop-length old) in
    sets-eq xs old 0 (omega arith) ∙ rw none (append-nil xs)

-- ---- the answer for a sheet that was accepted

module _ (bytes : List ℕ) (image pagefile : ℕ) (old : List ℕ) (s : Sheet) (at : ℕ) (e : sheet_of bytes image pagefile ≡ got s at) where
  no_room : length old < 3 * length s.runs → (a : CaseRead) → a ≡ case_refusal ListBufferShort → record { answer = a; buffer = old } ≡ case_runs_of bytes image pagefile old
  unfolding case_runs_of
  no_room h a g = rw (e, g, lt-ltb (length old) (3 * length s.runs) h)

  all_runs : (n : ℕ) → n ≡ length s.runs → 3 * n ≤ length old → (new rest : List ℕ) → new ≡ run_numbers 0 s.runs → rest ≡ drop (3 * n) old
      → (directory mode place : ℕ) → directory ≡ s.space.directory.0 → mode ≡ mode_number s.space.mode → place ≡ place_of s.space.mode
      → record { answer = record { number = 0; directory = directory; mode = mode; place = place; length = n }; buffer = new ++ rest } ≡ case_runs_of bytes image pagefile old
  unfolding case_runs_of
  all_runs n many fits new rest f g directory mode place d m p =
      let long : 0 + length (run_numbers 0 s.runs) ≡ 3 * n = omega (arith, many, numbers_long 0 s.runs) in
      let laid : sets old 0 (run_numbers 0 s.runs) ≡ run_numbers 0 s.runs ++ drop (3 * n) old = sets-eq (run_numbers 0 s.runs) old 0 (omega (arith, long)) ∙ rw long in
      rw (e, f, g, d, m, p, le-ltb (length old) (3 * length s.runs) (omega (arith, many)), laid, many)

-- ---- what the check of the sheet tells

-- the sheet that was accepted with these fields
record Accepts (bytes : List ℕ) (image pagefile : ℕ) (h : Header) : Type 0 where
  sheet : Sheet
  at : ℕ
  check : sheet_of bytes image pagefile ≡ got sheet at
  laws : AcceptedCase image pagefile sheet
  many : h.count ≡ length sheet.runs
  space : h.space ≡ sheet.space

module _ (bytes : List ℕ) (image pagefile : ℕ) (r : Result Header Fault) (e : r ≡ sheet_read (sheet_of bytes image pagefile)) where
  accepts : (h : Header) → r ≡ Ok h → Accepts bytes image pagefile h
  accepts h f = go (sheet_of bytes image pagefile) refl (sym e ∙ f)
    where
      go : (d : Read Sheet) → sheet_of bytes image pagefile ≡ d → sheet_read d ≡ Ok h → Accepts bytes image pagefile h
      go (got s at) e g =
          let own : h ≡ record { space = s.space; count = length s.runs } = cc in
          record {
            sheet = s;
            at = at;
            check = e;
            laws = accepted_laws bytes image pagefile s at e;
            many = ap (λ (x : Header). x.count) own;
            space = ap (λ (x : Header). x.space) own;
          }
      go (refused x) e g = cc

  refuses : (x : Fault) → r ≡ Err x → sheet_of bytes image pagefile ≡ refused x
  refuses x f = go (sheet_of bytes image pagefile) (sym e ∙ f)
    where
      go : (d : Read Sheet) → sheet_read d ≡ Err x → d ≡ refused x
      go (got s at) g = cc
      go (refused y) g = cc

  pub refused_sheet : (old : List ℕ) (x : Fault) → r ≡ Err x → (a : CaseRead) → a ≡ fault_case x → record { answer = a; buffer = old } ≡ case_runs_of bytes image pagefile old
  unfolding case_runs_of
  refused_sheet old x f a g = rw (refuses x f, g)

  module _ (old : List ℕ) (h : Header) (f : r ≡ Ok h) where
    -- the numbers that the runs take
    abbrev n : ℕ
    n = 3 * h.count

    q : Accepts bytes image pagefile h
    q = accepts h f

    pub short_buffer : length old < n → (a : CaseRead) → a ≡ case_refusal ListBufferShort → record { answer = a; buffer = old } ≡ case_runs_of bytes image pagefile old
    short_buffer l a g = no_room bytes image pagefile old q.sheet q.at q.check (omega (arith, l, q.many)) a g

    -- the rows lie over the front of the buffer, which they fill
    module _ (room : n ≤ length old) (r₂ : Result Header Fault) (rows : List ℕ) (p₂ : SheetAnswer (sheet_of bytes image pagefile) (take n old) r₂ rows) where
      rows_are : rows ≡ rows_from 0 q.sheet.runs
      rows_are =
          let laid : rows ≡ sets (take n old) 0 (rows_from 0 q.sheet.runs) = rw q.check at p₂.rows in
          let long : length (take n old) ≡ n = length-take-le n old room in
          laid ∙ laid_over (take n old) (rows_from 0 q.sheet.runs) (omega (arith, long, rows_length 0 q.sheet.runs, q.many))

      pub ordered : RowsInOrder rows
      ordered = rw rows_are (rows_in_order 0 0 0 q.sheet.runs q.laws.chain (omega arith))

      pub handed_back : (new : List ℕ) → new ≡ runs_of_rows rows
          → (directory mode place : ℕ) → directory ≡ h.space.directory.0 → mode ≡ mode_number h.space.mode → place ≡ place_of h.space.mode
          → record { answer = record { number = 0; directory = directory; mode = mode; place = place; length = h.count }; buffer = new ++ drop n old }
          ≡ case_runs_of bytes image pagefile old
      handed_back new e directory mode place d m p =
          let numbers : new ≡ run_numbers 0 q.sheet.runs = e ∙ rw rows_are (rows_turned 0 0 0 q.sheet.runs q.laws.chain (omega arith)) in
          all_runs bytes image pagefile old q.sheet q.at q.check h.count q.many room _ _ numbers refl directory mode place
          (d ∙ ap (λ (x : AddressSpace). x.directory.0) q.space) (m ∙ ap (λ (x : AddressSpace). mode_number x.mode) q.space) (p ∙ ap (λ (x : AddressSpace). place_of x.mode) q.space)
