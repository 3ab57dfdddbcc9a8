-- A sheet that keeps the rules, once written, is read back; and an accepted sheet is the one form of what it says.
use mathlib.Core.Path.{◌≡◌, refl, sym, ap, ◌∙◌, subst}
use mathlib.Core.Bool.{true}
use mathlib.Core.List.{List, [], ◌∷◌, ◌++◌, append_assoc, append-nil}
use Prim.Native.Nat.{ℕ, zero, suc, ◌+◌, ◌-◌, ◌*◌, ◌%◌, ◌^◌, ◌<◌, ◌≤◌}
use native.Mathlib.Omega.{arith}
use lib.Dec.{ltb, leb}
use lib.ListN.{length, drop, length-append}
use lib.Seq.{drop-length, drop_at}
use borrow.Author.Tests.{lt-ltb, le-leb, eq-eqb, ltb-true}
use Rattle.base.specs.declared.Refusal.TheVariants.{BadRun}
use Rattle.base.specs.Notation.{within}
use Rattle.base.proofs.Test.{both_true}
use Rattle.varint.specs.Reader.{got, ◌>>=◌, ◌>>◌, return, need}
use Rattle.varint.specs.Groups.{encode, number}
use Rattle.varint.proofs.Reader.{came, held, returned}
use Rattle.varint.proofs.Forms.{Bytes, Stands}
use Rattle.varint.proofs.Fields.{field_below}
use Rattle.varint.proofs.Standing.{number_at, drop_after, field_stands}
use Rattle.entry.specs.Pages.{frame}
use Rattle.entry.specs.declared.PagingMode.{PagingMode}
use Rattle.entry.specs.declared.PagingMode.TheVariants.{FourLevel, Plain, Pae}
use Rattle.sheet.specs.Sheet.{mode_number, place_of, mode_fields, mode_by, header, end_of, run_from, runs_from, run_pages, Sheet, own_fields, sheet_fields, sheet_of}
use Rattle.sheet.specs.Inner.{PlaceInPage}
use Rattle.sheet.specs.declared.AddressSpace.{AddressSpace}
use Rattle.sheet.specs.declared.Header.{Header}
use Rattle.sheet.specs.declared.Run.{Run}
use Rattle.sheet.proofs.Modes.{mode_again, mode_most, place_again, place_most, mode_read_lem}
use Rattle.sheet.proofs.HeaderFields.{ModeField, none, two, header_parts}
use Rattle.sheet.proofs.OneRun.{Follows, run_read_lem}
use Rattle.sheet.proofs.AcceptedCase.{Chain, runs_chain, sheet_parts, accepted_laws}
use Rattle.sheet_limits.specs.Write.{writable, edition_of, mode_bytes, header_bytes, run_bytes, runs_bytes, sheet_bytes}

-- a sheet that keeps the rules
pub record Keeps (t : Sheet) : Type 0 where
  pub directory : t.space.directory.0 < 2 ^ 36
  pub place : PlaceInPage t.space.mode
  pub some : 1 ≤ length t.runs
  pub most : length t.runs ≤ 1000
  pub chain : Chain 0 0 t.runs
  pub lengths : writable t.runs ≡ true

-- ---- what is written is read back

run_at : (s : List ℕ) (at least end : ℕ) (r : Run) (rest : List ℕ) → Follows least end r → r.pages < 2 ^ 36 → drop at s ≡ run_bytes end r ++ rest
    → run_from least end s at ≡ got r (at + length (run_bytes end r))
unfolding run_bytes
run_at s at least end r rest f h e =
    let gap = r.first.0 - end in
    let start : end + gap ≡ r.first.0 = omega (arith, f.apart) in
    let e₁ : drop at s ≡ encode gap ++ (encode r.pages ++ rest) = e ∙ append_assoc (encode gap) (encode r.pages) rest in
    let at₁ = at + length (encode gap) in
    let e₂ : drop at₁ s ≡ encode r.pages ++ rest = drop_after s at (encode gap) _ e₁ in
    let n₁ = number_at s at gap _ (omega (arith, f.top, f.some)) e₁ in
    let n₂ = number_at s at₁ r.pages rest h e₂ in
    let read = run_read_lem s at least end gap at₁ n₁ r.pages (at₁ + length (encode r.pages)) n₂ (omega (arith, f.apart)) (λ z. omega (arith, z, f.some)) (omega (arith, f.top)) in
    rw start at read
    ∙ ap (got r) (omega (arith, length-append (encode gap) (encode r.pages)))

runs_at : (rs : List Run) (s : List ℕ) (at least end : ℕ) (rest : List ℕ) → Chain least end rs → writable rs ≡ true → drop at s ≡ runs_bytes end rs ++ rest
    → runs_from (length rs) least end s at ≡ got rs (at + length (runs_bytes end rs))
unfolding runs_from
runs_at [] s at least end rest c w e = ap (got []) (omega arith)
runs_at (r ∷ rs) s at least end rest c w e =
    let p = both_true (ltb r.pages (2 ^ 36)) (writable rs) w in
    let e₁ : drop at s ≡ run_bytes end r ++ (runs_bytes (end_of r) rs ++ rest) = e ∙ append_assoc (run_bytes end r) (runs_bytes (end_of r) rs) rest in
    let at₁ = at + length (run_bytes end r) in
    let e₂ : drop at₁ s ≡ runs_bytes (end_of r) rs ++ rest = drop_after s at (run_bytes end r) _ e₁ in
    rw (run_at s at least end r _ c.0 (ltb-true r.pages (2 ^ 36) p.0) e₁, runs_at rs s at₁ 1 (end_of r) rest c.1 p.1 e₂)
    (ap (got (r ∷ rs)) (omega (arith, length-append (run_bytes end r) (runs_bytes (end_of r) rs))))

-- a mode of edition 2
second_at : (m : PagingMode) (s : List ℕ) (at : ℕ) (rest : List ℕ) → 1 ≤ mode_number m → PlaceInPage m → drop at s ≡ (encode (mode_number m) ++ encode (place_of m)) ++ rest
    → mode_fields s at ≡ got m (at + length (encode (mode_number m) ++ encode (place_of m)))
second_at m s at rest some h e =
    let n = mode_number m in
    let most : n ≤ 2 = mode_most m in
    let e₁ : drop at s ≡ encode n ++ (encode (place_of m) ++ rest) = e ∙ append_assoc (encode n) (encode (place_of m)) rest in
    let at₁ : ℕ = at + length (encode n) in
    let e₂ : drop at₁ s ≡ encode (place_of m) ++ rest = drop_after s at (encode n) _ e₁ in
    let n₁ = number_at s at n _ (omega arith) e₁ in
    let n₂ = number_at s at₁ (place_of m) rest (omega (arith, place_most m h)) e₂ in
    mode_read_lem s at n at₁ n₁ some most (place_of m) (at₁ + length (encode (place_of m))) n₂ (place_again m h)
    ∙ ap (λ (z : PagingMode). got z (at₁ + length (encode (place_of m)))) (mode_again m)
    ∙ ap (got m) (omega (arith, length-append (encode n) (encode (place_of m))))

mode_at : (m : PagingMode) (s : List ℕ) (at : ℕ) (rest : List ℕ) → PlaceInPage m → drop at s ≡ mode_bytes m ++ rest → mode_by (edition_of m) s at ≡ got m (at + length (mode_bytes m))
mode_at FourLevel s at rest h e = ap (got FourLevel) (omega arith)
mode_at Plain s at rest h e = second_at Plain s at rest (omega arith) h e
mode_at (Pae place) s at rest h e = second_at (Pae place) s at rest (omega arith) h e

edition_known : (m : PagingMode) → (edition_of m < 2 ^ 36) × (within 1 2 (edition_of m) ≡ true)
edition_known FourLevel = (omega arith, refl)
edition_known Plain = (omega arith, refl)
edition_known (Pae place) = (omega arith, refl)

header_at : (s : List ℕ) (h : Header) (rest : List ℕ) → s ≡ header_bytes h ++ rest → h.space.directory.0 < 2 ^ 36 → PlaceInPage h.space.mode → 1 ≤ h.count → h.count ≤ 1000
    → header s 0 ≡ got h (length (header_bytes h))
unfolding header header_bytes
header_at s h rest e d p some most =
    let directory = h.space.directory.0 in
    let m = h.space.mode in
    let known = edition_known m in
    let d₀ : drop 0 s ≡ encode (edition_of m) ++ (encode directory ++ (mode_bytes m ++ (encode h.count ++ rest))) = e ∙ rw (append_assoc, append_assoc, append_assoc) in
    let at₁ : ℕ = 0 + length (encode (edition_of m)) in
    let d₁ : drop at₁ s ≡ encode directory ++ (mode_bytes m ++ (encode h.count ++ rest)) = drop_after s 0 (encode (edition_of m)) _ d₀ in
    let at₂ : ℕ = at₁ + length (encode directory) in
    let d₂ : drop at₂ s ≡ mode_bytes m ++ (encode h.count ++ rest) = drop_after s at₁ (encode directory) _ d₁ in
    let at₃ : ℕ = at₂ + length (mode_bytes m) in
    let d₃ : drop at₃ s ≡ encode h.count ++ rest = drop_after s at₂ (mode_bytes m) _ d₂ in
    let sum : length (encode (edition_of m) ++ (encode directory ++ (mode_bytes m ++ encode h.count))) ≡ at₃ + length (encode h.count) =
    rw (length-append, length-append, length-append) (omega arith) in
    rw (
      number_at s 0 (edition_of m) _ known.0 d₀,
      known.1,
      number_at s at₁ directory _ d d₁,
      mode_at m s at₂ _ p d₂,
      number_at s at₃ h.count _ (omega arith) d₃,
      le-leb 1 h.count some,
      le-leb h.count 1000 most,
    ) (ap (got h) (sym sum))

pub sheet_reads : (s : List ℕ) (t : Sheet) (image pagefile : ℕ) → s ≡ sheet_bytes t → Keeps t → image ≡ 4096 * run_pages t.runs → pagefile % 4096 ≡ 0
    → sheet_of s image pagefile ≡ got t (length s)
unfolding sheet_of sheet_fields own_fields sheet_bytes
sheet_reads s t image pagefile e k i p =
    let h : Header = record { space = t.space; count = length t.runs } in
    let at : ℕ = length (header_bytes h) in
    let d : drop at s ≡ runs_bytes 0 t.runs ++ [] = rw (e, append-nil (runs_bytes 0 t.runs)) (drop_at (header_bytes h) (runs_bytes 0 t.runs) at refl) in
    let end : at + length (runs_bytes 0 t.runs) ≡ length s = sym (ap length e ∙ length-append (header_bytes h) (runs_bytes 0 t.runs)) in
    rw (
      header_at s h (runs_bytes 0 t.runs) e k.directory k.place k.some k.most,
      runs_at t.runs s at 0 0 [] k.chain k.lengths d,
      eq-eqb (at + length (runs_bytes 0 t.runs)) (length s) end,
      eq-eqb image (4096 * run_pages t.runs) i,
      p,
    ) (ap (got t) end)

-- ---- an accepted sheet is the one form of what it says

run_stands : (s : List ℕ) (at end gap a pages next : ℕ) → Stands s at gap a → Stands s a pages next
    → drop at s ≡ run_bytes end (record { first = frame (end + gap); pages = pages }) ++ drop next s
unfolding run_bytes
run_stands s at end gap a pages next n₁ n₂ =
    let back : end + gap - end ≡ gap = omega arith in
    rw (back, append_assoc) (n₁.bytes ∙ ap (λ (l : List ℕ). encode gap ++ l) n₂.bytes)

record RunForm (s : List ℕ) (at end : ℕ) (r : Run) (next : ℕ) : Type 0 where
  bytes : drop at s ≡ run_bytes end r ++ drop next s
  pages : r.pages < 2 ^ 36

run_form : (s : List ℕ) (at least end : ℕ) (r : Run) (next : ℕ) → Bytes s → run_from least end s at ≡ got r next → RunForm s at end r next
unfolding run_from
run_form s at least end r next b e =
    let c₁ = came s (λ gap. ◌>>=◌ number (λ pages. ◌>>◌ (need (leb least gap) BadRun) (◌>>◌ (need (ltb 0 pages) BadRun) (◌>>◌ (need (leb (end + gap + pages) (2 ^ 36)) BadRun) (return (record { first = frame (end + gap); pages = pages })))))) (number s at) r next e in
    let c₂ = came s (λ pages. ◌>>◌ (need (leb least c₁.value) BadRun) (◌>>◌ (need (ltb 0 pages) BadRun) (◌>>◌ (need (leb (end + c₁.value + pages) (2 ^ 36)) BadRun) (return (record { first = frame (end + c₁.value); pages = pages }))))) (number s c₁.at) r next c₁.rest in
    let t₁ = held s (λ _. ◌>>◌ (need (ltb 0 c₂.value) BadRun) (◌>>◌ (need (leb (end + c₁.value + c₂.value) (2 ^ 36)) BadRun) (return (record { first = frame (end + c₁.value); pages = c₂.value })))) (leb least c₁.value) BadRun c₂.at r next c₂.rest in
    let t₂ = held s (λ _. ◌>>◌ (need (leb (end + c₁.value + c₂.value) (2 ^ 36)) BadRun) (return (record { first = frame (end + c₁.value); pages = c₂.value }))) (ltb 0 c₂.value) BadRun c₂.at r next t₁.1 in
    let t₃ = held s (λ _. return (record { first = frame (end + c₁.value); pages = c₂.value })) (leb (end + c₁.value + c₂.value) (2 ^ 36)) BadRun c₂.at r next t₂.1 in
    let same = returned (record { first = frame (end + c₁.value); pages = c₂.value }) r c₂.at next t₃.1 in
    let n₁ = field_stands s at c₁.value c₁.at b c₁.field in
    let n₂ = field_stands s c₁.at c₂.value c₂.at b c₂.field in
    let own : RunForm s at end (record { first = frame (end + c₁.value); pages = c₂.value }) c₂.at = record {
      bytes = run_stands s at end c₁.value c₁.at c₂.value c₂.at n₁ n₂;
      pages = field_below s c₁.at c₂.value c₂.at c₂.field;
    } in
    rw (same.0, same.1) at own

record RunsForm (s : List ℕ) (at end : ℕ) (rs : List Run) (next : ℕ) : Type 0 where
  bytes : drop at s ≡ runs_bytes end rs ++ drop next s
  lengths : writable rs ≡ true

more_runs : (s : List ℕ) (at end : ℕ) (r : Run) (a : ℕ) (rs : List Run) (next : ℕ) → RunForm s at end r a → RunsForm s a (end_of r) rs next → RunsForm s at end (r ∷ rs) next
more_runs s at end r a rs next p q = record {
  bytes = rw append_assoc (p.bytes ∙ ap (λ (l : List ℕ). run_bytes end r ++ l) q.bytes);
  lengths = rw (lt-ltb r.pages (2 ^ 36) p.pages) q.lengths;
}

runs_form : (n : ℕ) (s : List ℕ) (at least end : ℕ) (rs : List Run) (next : ℕ) → Bytes s → runs_from n least end s at ≡ got rs next → RunsForm s at end rs next
unfolding runs_from
runs_form zero s at least end rs next b e =
    let same = returned [] rs at next e in
    let own : RunsForm s at end [] at = record { bytes = refl; lengths = refl } in
    subst (λ (k : ℕ). RunsForm s at end rs k) same.1 (rw same.0 at own)
runs_form (suc n) s at least end rs next b e =
    let c₁ = came s (λ r. ◌>>=◌ (runs_from n 1 (end_of r)) (λ more. return (r ∷ more))) (run_from least end s at) rs next e in
    let r = c₁.value in
    let c₂ = came s (λ more. return (r ∷ more)) (runs_from n 1 (end_of r) s c₁.at) rs next c₁.rest in
    let same = returned (r ∷ c₂.value) rs c₂.at next c₂.rest in
    let own : RunsForm s at end (r ∷ c₂.value) c₂.at =
    more_runs s at end r c₁.at c₂.value c₂.at (run_form s at least end r c₁.at b c₁.field) (runs_form n s c₁.at 1 (end_of r) c₂.value c₂.at b c₂.field) in
    rw (same.0, same.1) at own

-- the two numbers of edition 2's modes
second_form : (m : PagingMode) → 1 ≤ mode_number m → (edition_of m ≡ 2) × (mode_bytes m ≡ encode (mode_number m) ++ encode (place_of m))
second_form FourLevel h = absurd (omega arith)
second_form Plain h = (refl, refl)
second_form (Pae place) h = (refl, refl)

mode_form : {s : List ℕ} {at n next : ℕ} {m : PagingMode} → Bytes s → ModeField s at n m next → (n ≡ edition_of m) × (drop at s ≡ mode_bytes m ++ drop next s)
mode_form b none = (refl, refl)
mode_form {s} {at} b (two m next q) =
    let f = second_form m q.some in
    let n₁ = field_stands s at (mode_number m) q.place_at b q.mode_read_lem in
    let n₂ = field_stands s q.place_at (place_of m) next b q.place_read in
    (sym f.0, rw (f.1, append_assoc) (n₁.bytes ∙ ap (λ (l : List ℕ). encode (mode_number m) ++ l) n₂.bytes))

header_form : (s : List ℕ) (h : Header) (next : ℕ) → Bytes s → header s 0 ≡ got h next → s ≡ header_bytes h ++ drop next s
unfolding header_bytes
header_form s h next b e =
    let p = header_parts s h next e in
    let m = h.space.mode in
    let f = mode_form b p.mode_read_lem in
    let edition = rw f.0 at (field_stands s 0 p.edition p.directory_at b p.edition_read).bytes in
    let directory = (field_stands s p.directory_at h.space.directory.0 p.mode_at b p.directory_read).bytes in
    let count = (field_stands s p.count_at h.count next b p.count_read).bytes in
    rw (append_assoc, append_assoc, append_assoc)
    (edition ∙ ap (λ (l : List ℕ). encode (edition_of m) ++ l) (directory ∙ ap (λ (l : List ℕ). encode h.space.directory.0 ++ l) (f.1 ∙ ap (λ (l : List ℕ). mode_bytes m ++ l) count)))

pub record SheetForm (s : List ℕ) (t : Sheet) : Type 0 where
  pub keeps : Keeps t
  pub bytes : s ≡ sheet_bytes t

pub sheet_form : (s : List ℕ) (image pagefile : ℕ) (t : Sheet) (at : ℕ) → Bytes s → sheet_of s image pagefile ≡ got t at → SheetForm s t
unfolding sheet_bytes
sheet_form s image pagefile t at b e =
    let p = (sheet_parts s image pagefile t at e).own in
    let laws = accepted_laws s image pagefile t at e in
    let many : length t.runs ≡ p.fields.count = (runs_chain p.fields.count 0 0 s p.at t.runs (length s) p.runs_read).many in
    let runs = runs_form p.fields.count s p.at 0 0 t.runs (length s) b p.runs_read in
    let all : drop p.at s ≡ runs_bytes 0 t.runs = runs.bytes ∙ ap (λ (l : List ℕ). runs_bytes 0 t.runs ++ l) (drop-length s) ∙ append-nil _ in
    let fields : p.fields ≡ record { space = t.space; count = length t.runs } =
    ap (λ (z : AddressSpace). record { space = z; count = p.fields.count }) p.space ∙ ap (λ (k : ℕ). record { space = t.space; count = k }) (sym many) in
    record {
      keeps = record { directory = laws.directory; place = laws.place; some = laws.some; most = laws.most; chain = laws.chain; lengths = runs.lengths };
      bytes = rw fields at (header_form s p.fields p.at b p.header_read) ∙ ap (λ (l : List ℕ). header_bytes (record { space = t.space; count = length t.runs }) ++ l) all;
    }
