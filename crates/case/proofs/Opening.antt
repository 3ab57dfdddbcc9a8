-- What an opened case is: the world of the accepted case, over rows that are enough.
use Rattle.std.specs.Prelude.{Result, Ok}
use mathlib.Core.Path.{◌≡◌, refl, sym, ap, subst, ◌∙◌}
use mathlib.Core.List.{List}
use mathlib.Core.Bool.{true}
use Prim.Native.Nat.{ℕ, ◌+◌, ◌*◌, ◌≤◌}
use native.Mathlib.Omega.{arith}
use lib.ListN.{length, take}
use lib.Seq.{sets, sets-eq, take_at}
use Rattle.base.specs.declared.Fault.{Fault}
use Rattle.varint.specs.Reader.{Read, got, refused}
use Rattle.sheet.specs.Sheet.{Sheet, header, sheet_of}
use Rattle.sheet.specs.Inner.{few_runs}
use Rattle.sheet.specs.Call.{rows_from, RowsLaid, sheet_read}
use Rattle.sheet.specs.declared.AddressSpace.{AddressSpace}
use Rattle.sheet.specs.declared.Header.{Header}
use Rattle.sheet.specs.declared.Run.{Run}
use Rattle.sheet.proofs.ManyRuns.{rows_length}
use Rattle.sheet.proofs.AcceptedCase.{AcceptedCase, accepted_laws}
use Rattle.sheet.proofs.Short.{few_runs_lem}
use Rattle.walk.specs.Walk.{world_of, resolve_of, Grounded}
use Rattle.walk.specs.Rows.{rows_world, four_levels}
use Rattle.entry.specs.declared.PagingMode.{PagingMode}
use Rattle.entry.specs.declared.PagingMode.TheVariants.{FourLevel, Plain, Pae}
use Rattle.walk.proofs.Ground.{Sound, grounded}
use Rattle.walk.proofs.CaseWorld.{same_world, sound_case}
use Rattle.case.specs.Case.{Case, check_of, by_check, served_in, served}
use Rattle.case.specs.Answer.{GroundedAt}
use Rattle.case.specs.Inner.{numbers_of, row_numbers, opened_of, Opens}

-- ---- open_case

-- three numbers a run cannot overflow
pub few_rows : (bytes : List ℕ) (image pagefile : ℕ) (v : Result Header Fault) (h : Header) → v ≡ sheet_read (sheet_of bytes image pagefile) → v ≡ Ok h → h.count ≤ 1000
few_rows bytes image pagefile v h e f = go (sheet_of bytes image pagefile) refl (sym e ∙ f)
  where
    go : (d : Read Sheet) → sheet_of bytes image pagefile ≡ d → sheet_read d ≡ Ok h → h.count ≤ 1000
    go (got s at) g k =
        let n : length s.runs ≡ h.count = cc in
        omega (arith, (accepted_laws bytes image pagefile s at g).most)
    go (refused r) g k = absurd (let z : ◌≡◌ {A = ℕ} 0 1 = cc in omega arith)

-- ---- its caller

-- the rows stand at the front of numbers that are enough
rows_front : (old : List ℕ) (rs : List Run) → 3 * length rs ≤ length old → take (3 * length rs) (sets old 0 (rows_from 0 rs)) ≡ rows_from 0 rs
rows_front old rs h =
    let n : length (rows_from 0 rs) ≡ 3 * length rs = rows_length 0 rs in
    let fits : 0 + length (rows_from 0 rs) ≤ length old = omega arith in
    rw (sets-eq (rows_from 0 rs) old 0 fits, ← n) (take_at (rows_from 0 rs) _ (length (rows_from 0 rs)) refl)

-- numbers that are enough, whatever the sheet
pub enough_numbers : (c : Case) → row_numbers c ≤ 3000
enough_numbers c = go (check_of c) refl
  where
    go : (d : Read Sheet) → check_of c ≡ d → numbers_of d ≤ 3000
    go (got s at) e = omega (arith, (accepted_laws c.sheet (length c.image) (length c.pagefile) s at e).most)
    go (refused r) e = omega arith

-- numbers that are enough for a sheet whose count says few runs
pub enough_for_few : (c : Case) → few_runs (header c.sheet 0) ≡ true → row_numbers c ≤ 96
enough_for_few c h = go (check_of c) refl
  where
    go : (d : Read Sheet) → check_of c ≡ d → numbers_of d ≤ 96
    go (got s at) e = omega (arith, few_runs_lem c.sheet (length c.image) (length c.pagefile) s at e h)
    go (refused r) e = omega arith

-- an accepted case, opened over numbers that are enough for its rows
pub record Accepted (c : Case) (space : AddressSpace) (n : ℕ) (rows : List ℕ) : Type 0 where
  pub sheet : Sheet
  pub at : ℕ
  pub check : check_of c ≡ got sheet at
  pub few : n ≤ row_numbers c
  pub world : rows_world (take n rows) space c.image c.pagefile ≡ world_of sheet c.image c.pagefile
  pub laws : AcceptedCase (length c.image) (length c.pagefile) sheet
  pub sound : Sound (world_of sheet c.image c.pagefile)

pub accepted_case : (c : Case) (old : List ℕ) (v : Result (AddressSpace × ℕ) Fault) (new : List ℕ) (p : AddressSpace × ℕ) → row_numbers c ≤ length old → Opens (check_of c) old v new → v ≡ Ok p → Accepted c p.0 p.1 new
accepted_case c old v new p h q f = go (check_of c) refl q.rows (sym q.same ∙ f)
  where
    go : (d : Read Sheet) → check_of c ≡ d → RowsLaid old d new → opened_of d ≡ Ok p → Accepted c p.0 p.1 new
    go (got s at) g l k =
        let q : AcceptedCase (length c.image) (length c.pagefile) s = accepted_laws c.sheet (length c.image) (length c.pagefile) s at g in
        let both : (s.space, 3 * length s.runs) ≡ p = cc in
        let own : s.space ≡ p.0 = ap (λ (x : AddressSpace × ℕ). x.0) both in
        let many : 3 * length s.runs ≡ p.1 = ap (λ (x : AddressSpace × ℕ). x.1) both in
        let all : row_numbers c ≡ 3 * length s.runs = ap numbers_of g in
        let front : take (3 * length s.runs) new ≡ rows_from 0 s.runs = rw l (rows_front old s.runs (omega arith)) in
        record {
          sheet = s;
          at = at;
          check = g;
          few = omega arith;
          world = rw (← own, ← many, front) (same_world s c.image c.pagefile q);
          laws = q;
          sound = sound_case s c.image c.pagefile q;
        }
    go (refused r) g l k = absurd (let z : ◌≡◌ {A = ℕ} 0 1 = cc in omega arith)

-- whether it is accepted or not, the walk of an address rests on what the files of the case hold
pub case_grounded : (c : Case) (a : ℕ) → GroundedAt c a
case_grounded c a = go (check_of c) refl
  where
    go : (d : Read Sheet) → check_of c ≡ d → by_check c (λ f. Unit {0}) (λ w. Grounded w (resolve_of 3 w a)) d
    go (refused f) e = tt
    go (got s at) e =
        grounded (world_of s c.image c.pagefile) (sound_case s c.image c.pagefile (accepted_laws c.sheet (length c.image) (length c.pagefile) s at e)) a

-- ---- a call that serves four levels alone

-- an accepted case of four levels
pub record AcceptedFour (c : Case) (space : AddressSpace) (n : ℕ) (rows : List ℕ) : Type 0 where
  pub case : Accepted c space n rows
  pub check : served (check_of c) ≡ got case.sheet case.at
  pub four : space ≡ four_levels space.directory

served_four : (m : PagingMode) (s : Sheet) (at : ℕ) (p : AddressSpace × ℕ) → s.space.mode ≡ m → opened_of (served_in m (got s at)) ≡ Ok p → p.0.mode ≡ FourLevel
served_four FourLevel s at p e k =
    let both : (s.space, 3 * length s.runs) ≡ p = cc in
    ap (λ (x : AddressSpace × ℕ). x.0.mode) (sym both) ∙ e
served_four Plain s at p e k = absurd (let z : ◌≡◌ {A = ℕ} 0 1 = cc in omega arith)
served_four (Pae place) s at p e k = absurd (let z : ◌≡◌ {A = ℕ} 0 1 = cc in omega arith)

pub accepted_four : (c : Case) (old : List ℕ) (v : Result (AddressSpace × ℕ) Fault) (new : List ℕ) (p : AddressSpace × ℕ) → row_numbers c ≤ length old → Opens (served (check_of c)) old v new → v ≡ Ok p → AcceptedFour c p.0 p.1 new
accepted_four c old v new p h q f =
    let all = accepted_case c old v new p h (record { same = own.0; rows = own.1 }) f in
    record {
      case = all;
      check = same_check (check_of c) ready ∙ all.check;
      four = ap (λ (m : PagingMode). record { directory = p.0.directory; mode = m }) (mode (check_of c) ready);
    }
  where
    whole : (m : PagingMode) (s : Sheet) (at : ℕ) → opened_of (served_in m (got s at)) ≡ Ok p → served_in m (got s at) ≡ got s at
    whole FourLevel s at k = refl
    whole Plain s at k = absurd (let z : ◌≡◌ {A = ℕ} 0 1 = cc in omega arith)
    whole (Pae place) s at k = absurd (let z : ◌≡◌ {A = ℕ} 0 1 = cc in omega arith)

    ready : opened_of (served (check_of c)) ≡ Ok p
    ready = sym q.same ∙ f

    same_check : (d : Read Sheet) → opened_of (served d) ≡ Ok p → served d ≡ d
    same_check (got s at) k = whole s.space.mode s at k
    same_check (refused x) k = refl

    mode : (d : Read Sheet) → opened_of (served d) ≡ Ok p → p.0.mode ≡ FourLevel
    mode (got s at) k = served_four s.space.mode s at p refl k
    mode (refused x) k = absurd (let z : ◌≡◌ {A = ℕ} 0 1 = cc in omega arith)

    own : (v ≡ opened_of (check_of c)) × RowsLaid old (check_of c) new
    own = let e = same_check (check_of c) ready in (q.same ∙ ap opened_of e, subst (λ (d : Read Sheet). RowsLaid old d new) e q.rows)

-- what was opened of a case of four levels is what a call opens that serves four levels alone
pub opens_served : (c : Case) (old : List ℕ) (v : Result (AddressSpace × ℕ) Fault) (new : List ℕ) (p : AddressSpace × ℕ) → Opens (check_of c) old v new → v ≡ Ok p → p.0.mode ≡ FourLevel → Opens (served (check_of c)) old v new
opens_served c old v new p q f k = go (check_of c) q
  where
    go : (d : Read Sheet) → Opens d old v new → Opens (served d) old v new
    go (refused x) h = h
    go (got s at) h =
        let both : (s.space, 3 * length s.runs) ≡ p = cc in
        let four : s.space.mode ≡ FourLevel = ap (λ (x : AddressSpace × ℕ). x.0.mode) both ∙ k in
        let same : served_in s.space.mode (got s at) ≡ got s at = rw four refl in
        subst (λ (d : Read Sheet). Opens d old v new) (sym same) h
