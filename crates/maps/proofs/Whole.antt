-- Demand 3, and the map call above the two passes.
use mathlib.Core.Path.{◌≡◌, refl, sym, ap, subst, ◌∙◌}
use mathlib.Core.Bool.{Bool, true, false}
use mathlib.Core.List.{List, [], ◌∷◌}
use Prim.Native.Nat.{ℕ, zero, suc, ◌+◌, ◌-◌, ◌*◌, ◌/◌, ◌%◌, ◌^◌, ◌≤◌, ◌<◌}
use native.Mathlib.Omega.{arith}
use lib.Dec.{ltb}
use lib.ListN.{length, take, drop}
use lib.Seq.{sets, sets-eq, take_at}
use borrow.Author.Tests.{lt-ltb, le-ltb, le-leb, ne_eqb}
use Rattle.std.specs.Prelude.{if◌then◌else◌, Result, Ok, Err}
use Rattle.std.proofs.Common.{MutBor}
use Rattle.base.specs.Notation.{bits}
use Rattle.base.specs.Refusal.{refusal_number, unplaced}
use Rattle.base.specs.declared.Fault.{Fault}
use Rattle.base.specs.declared.Refusal.{Refusal}
use Rattle.base.specs.declared.Refusal.TheVariants.{BadMapRange, MapBufferShort}
use Rattle.base.proofs.Test.{Test, test, below, above, both_true}
use Rattle.base.proofs.Numbers.{ten_or_more}
use Rattle.varint.specs.Reader.{Read, got, refused}
use Rattle.sheet.specs.Sheet.{Sheet, run_pages}
use Rattle.sheet.proofs.AcceptedCase.{AcceptedCase, accepted_laws, pages_below}
use Rattle.walk.specs.Walk.{World, world_of, resolve_of, number_of, offset_of}
use Rattle.entry.specs.Addresses.{reachable, canonical, reachable_in}
use Rattle.walk.proofs.CaseWorld.{sound_case}
use Rattle.resolution.specs.Open.{open_world}
use Rattle.resolution.specs.declared.OpenCase.{OpenCase}
use Rattle.walk.specs.declared.Place.{Place}
use Rattle.walk.specs.declared.Place.TheVariants.{Image, Pagefile, Zeros, Refused}
use Rattle.walk.proofs.Ground.{Sound, At, resolve_at}
use Rattle.walk.proofs.Codes.{resolve_coded}
use Rattle.walk.proofs.SamePage.{moved, same_page}
use Rattle.case.specs.Case.{Case, check_of, by_check}
use Rattle.case.specs.Run.{MayRun, Ran}
use Rattle.case.proofs.Running.{ran_in, nowhere}
use Rattle.case.proofs.Opening.{case_grounded}
use Rattle.map_format.specs.Reading.{map_fields}
use Rattle.map_format.specs.Extents.{has_file_page, extents_of, page_at}
use Rattle.map_format.specs.declared.Extent.{Extent}
use Rattle.map_format.specs.declared.MappedPage.{MappedPage}
use Rattle.map_format.proofs.Answers.{nth_page, ZeroWithoutFile, SameAnswer, AllMappable}
use Rattle.map_format.proofs.Pages.{pages_back}
use Rattle.map_format.proofs.Fewest.{fewest}
use Rattle.map_format.proofs.ReadBack.{reads_back}
use Rattle.lookup.specs.Call.{answer_at, lookup_of}
use Rattle.lookup.specs.declared.Found.{Found}
use Rattle.maps.specs.MapOf.{allowed, mapped_page_of, pages_of, header_of, map_of}
use Rattle.maps.specs.Demand3.{walk_answer, AnswersAsWalk, Fewest, Demand3}
use Rattle.maps.specs.Call.{map_outcome, map_call, MapAnswer}
use Rattle.maps.specs.Inner.{map_fits, map_into}
use Rattle.base.specs.declared.Written.{Written}
use Rattle.base.specs.Written.{WriteOutcome, fault_written, unwritten, written}
use Rattle.maps.proofs.Ranges.{Allowed, allowed_range, in_range_lem, start_in_half, range_reached}
use Rattle.maps.proofs.Mapping.{Told, mappable, pages_long}

-- page k of the pages
nth_page_lem : (n : ℕ) (w : World) (a k : ℕ) → k < n → nth_page (pages_of n w a) k ≡ mapped_page_of (resolve_of 3 w (a + 4096 * k)).place
unfolding pages_of
nth_page_lem zero w a k h = absurd (omega arith)
nth_page_lem (suc n) w a zero h =
    let e : a + 4096 * 0 ≡ a = omega arith in
    rw e
nth_page_lem (suc n) w a (suc k) h =
    let e : a + 4096 + 4096 * k ≡ a + 4096 * suc k = omega arith in
    rw (← e) (nth_page_lem n w (a + 4096) k (omega arith))

-- no refusal has a page of a file
refusal_no_file : (r : Refusal) → has_file_page (refusal_number r) ≡ false
refusal_no_file r =
    let h : 10 ≤ refusal_number r = ten_or_more r in
    rw (ne_eqb (refusal_number r) 1 (λ e. omega (arith, e, h)), ne_eqb (refusal_number r) 2 (λ e. omega (arith, e, h)))

-- the answer of a page's first byte gives that of each of its bytes
page_answers : (w : World) (b k : ℕ) → b % 4096 ≡ 0 → k < 4096 → (p : Place) → At w b p → answer_at (b + k) (mapped_page_of p) ≡ record { number = number_of (moved k p); offset = offset_of (moved k p) }
page_answers w b k hb hk (Image o) t = ap (λ (x : ℕ). record { number = 1; offset = x }) (omega (arith, t.1))
page_answers w b k hb hk (Pagefile o) t = ap (λ (x : ℕ). record { number = 2; offset = x }) (omega (arith, t.1))
page_answers w b k hb hk Zeros t = refl
page_answers w b k hb hk (Refused r) t = rw (refusal_no_file r)

module _ (w : World) (sound : Sound w) (small : length w.image ≤ 2 ^ 48) (start count : ℕ) (range : allowed w.space.mode start count ≡ true) where
  q : Allowed start count
  q = allowed_range w.space.mode start count range

  abbrev pages : List MappedPage
  pages = pages_of count w start

  all_mappable : (n a : ℕ) → ((k : ℕ) → k < n → reachable_in w.space.mode (a + 4096 * k) ≡ true) → AllMappable (pages_of n w a)
  unfolding pages_of
  all_mappable zero a h = tt
  all_mappable (suc n) a h =
      let e : a + 4096 * 0 ≡ a = omega arith in (
        mappable (resolve_of 3 w a).place (resolve_coded w sound small 3 a (rw e at (h 0 (omega arith)))),
        all_mappable n (a + 4096) (λ k l. rw (after_page k) (h (suc k) (omega arith))),
      )
    where
      after_page : (k : ℕ) → a + 4096 + 4096 * k ≡ a + 4096 * suc k
      after_page k = omega arith

  holds : AllMappable pages
  holds = all_mappable count start (λ k l. range_reached w.space.mode start count range (start + 4096 * k) (omega arith) (omega arith))

  zero_files : (ps : List MappedPage) → AllMappable ps → ZeroWithoutFile ps
  zero_files [] c = tt
  zero_files (p ∷ ps) c = (c.0.zero_without_file, zero_files ps c.1)

  canonical_of : (a : ℕ) → reachable a ≡ true → canonical a ≡ true
  unfolding reachable
  canonical_of a h = (both_true (ltb a (2 ^ 64)) (canonical a) h).1

  -- ---- the map answers as the walk does

  page_of_lem : (a : ℕ) → start ≤ a → a < start + 4096 * count → answer_at a (nth_page pages ((a - start) / 4096)) ≡ walk_answer w a
  page_of_lem a l u =
      let k = (a - start) / 4096 in
      let b = start + 4096 * k in
      let o = a % 4096 in
      let hk : k < count = omega arith in
      let hb : b % 4096 ≡ 0 = omega (arith, q.aligned) in
      let here : b + o ≡ a = omega (arith, q.aligned) in
      let at : nth_page pages k ≡ mapped_page_of (resolve_of 3 w b).place = nth_page_lem count w start k hk in
      let move : (resolve_of 3 w a).place ≡ moved o (resolve_of 3 w b).place = ap (λ (x : ℕ). (resolve_of 3 w x).place) (sym here) ∙ ap (λ v. v.place) (same_page w b o hb (omega arith) 3) in
      ap (answer_at a) at
      ∙ ap (λ (x : ℕ). answer_at x (mapped_page_of (resolve_of 3 w b).place)) (sym here)
      ∙ page_answers w b o hb (omega arith) (resolve_of 3 w b).place (resolve_at w sound 3 b)
      ∙ ap (λ (p : Place). record { number = number_of p; offset = offset_of p }) (sym move)

  map_answers : (a : ℕ) → start ≤ a → a < start + 4096 * count → lookup_of (map_of w start count) a ≡ walk_answer w a
  unfolding lookup_of map_of
  map_answers a l u =
      let r = in_range_lem q a l u in
      rw (
        reads_back pages (header_of start count) holds (sym (pages_long count w start)) (start_in_half q),
        canonical_of a r.reaches,
        le-leb (bits start 12 47) (bits a 12 47) r.not_below,
        lt-ltb (bits a 12 47) (bits start 12 47 + count) r.not_above,
        r.page,
        pages_back pages ((a - start) / 4096) (omega (arith, pages_long count w start)),
      )
      (page_of_lem a l u)

  -- ---- no list of extents that answers so is shorter

  same_answer : (x : MappedPage) (p : Place) (a : ℕ) → a % 4096 ≡ 0 → answer_at a x ≡ record { number = number_of p; offset = offset_of p } → SameAnswer x (mapped_page_of p)
  same_answer x p a h e =
      let ec : x.code ≡ number_of p = ap (λ (z : Found). z.number) e in
      record { code = ec; file = λ c. go (rw (← ec) at c) }
    where
      go : has_file_page x.code ≡ true → x.file ≡ offset_of p / 4096
      go c =
          let eo : (if has_file_page x.code then 4096 * x.file + a % 4096 else 0) ≡ offset_of p = ap (λ (z : Found). z.offset) e in
          let ef : 4096 * x.file + a % 4096 ≡ offset_of p = rw c at eo in
          omega arith

  fewest_extents : (es : List Extent) → AnswersAsWalk w start count es → length (extents_of pages) ≤ length es
  fewest_extents es s = fewest pages es (zero_files pages holds) (record { lengths = s.lengths; sum = s.sum ∙ sym (pages_long count w start); answers = each })
    where
      each : (k : ℕ) → k < length pages → SameAnswer (page_at es k) (nth_page pages k)
      each k h =
          let hk : k < count = omega (arith, pages_long count w start) in
          let a = start + 4096 * k in
          let there : (a - start) / 4096 ≡ k = omega arith in
          rw (nth_page_lem count w start k hk)
          (same_answer (page_at es k) (resolve_of 3 w a).place a (omega (arith, q.aligned)) (rw there at (s.answers a (omega arith) (omega arith))))

  map_fewest : Fewest w start count (map_fields (map_of w start count) 0)
  unfolding map_of
  map_fewest = rw (reads_back pages (header_of start count) holds (sym (pages_long count w start)) (start_in_half q)) fewest_extents

  -- ---- demand 3

  pub demand3 : (old : List ℕ) → Demand3 w start count old (map_outcome w start count old)
  demand3 old = record {
    short = λ h. rw (lt-ltb (length old) (length (map_of w start count)) h);
    written = λ h. rw (le-ltb (length old) (length (map_of w start count)) h);
    answers = λ e a l u. go (test (length old) (length (map_of w start count))) e a l u;
    fewest = λ e. least (test (length old) (length (map_of w start count))) e;
  }
    where
      refused : {A : Type 0} → length old < length (map_of w start count) → (map_outcome w start count old).answer.number ≡ 0 → A
      refused h e =
          let z : refusal_number MapBufferShort ≡ 0 = rw (lt-ltb (length old) (length (map_of w start count)) h) at e in
          absurd (omega (arith, z))

      -- the front of the buffer is the map
      front : length (map_of w start count) ≤ length old → take (map_outcome w start count old).answer.length (map_outcome w start count old).buffer ≡ map_of w start count
      front h = rw (
        le-ltb (length old) (length (map_of w start count)) h,
        sets-eq (map_of w start count) old 0 (omega arith),
        take_at (map_of w start count) (drop (0 + length (map_of w start count)) old) (length (map_of w start count)) refl,
      )

      least : Test (length old) (length (map_of w start count)) → (map_outcome w start count old).answer.number ≡ 0
          → Fewest w start count (map_fields (take (map_outcome w start count old).answer.length (map_outcome w start count old).buffer) 0)
      least (below h) e = refused h e
      least (above h) e = subst (λ (bs : List ℕ). Fewest w start count (map_fields bs 0)) (sym (front h)) map_fewest

      go : Test (length old) (length (map_of w start count)) → (map_outcome w start count old).answer.number ≡ 0 → (a : ℕ) → start ≤ a → a < start + 4096 * count
          → lookup_of (take (map_outcome w start count old).answer.length (map_outcome w start count old).buffer) a ≡ walk_answer w a
      go (below h) e a l u = refused h e
      go (above h) e a l u = subst (λ (bs : List ℕ). lookup_of bs a ≡ walk_answer w a) (sym (front h)) (map_answers a l u)

-- ---- the map call

-- 0 and the length, or what is at fault
abbrev pub as_written : Result ℕ Fault → Written
as_written (Ok n) = record { number = 0; length = n }
as_written (Err f) = fault_written f

module _ (c : Case) where
  module _ (s : Sheet) (at : ℕ) (e : check_of c ≡ got s at) where
    abbrev laws : AcceptedCase (length c.image) (length c.pagefile) s
    laws = accepted_laws c.sheet (length c.image) (length c.pagefile) s at e

    -- an accepted image has at most 2^36 pages
    small_image : length c.image ≤ 2 ^ 48
    small_image =
        let below : 0 + run_pages s.runs ≤ 2 ^ 36 = pages_below 0 0 s.runs (omega arith) laws.chain in
        omega (arith, laws.image_pages)

  pub may_map : (P : OpenCase → Type 0) → ((o : OpenCase) → length o.image.now ≤ 2 ^ 48 → P o) → MayRun c P
  may_map P h = go (check_of c) refl
    where
      go : (d : Read Sheet) → check_of c ≡ d → by_check c (λ f. Unit {0}) (λ w. (o : OpenCase) → open_world o ≡ w → P o) d
      go (refused f) e = tt
      go (got s at) e = λ o f. h o (rw (ap (λ (w : World). w.image) f) (small_image s at e))

  module _ (start count : ℕ) (old : List ℕ) (post : OpenCase → MutBor (List ℕ) → Result ℕ Fault → MutBor (List ℕ) → Type 0) (r : Result ℕ Fault) (new : List ℕ) where
    first : {p : Result ℕ Fault × List ℕ} → (r, new) ≡ p → r ≡ p.0
    first e = ap (λ (q : Result ℕ Fault × List ℕ). q.0) e

    last : {p : Result ℕ Fault × List ℕ} → (r, new) ≡ p → new ≡ p.1
    last e = ap (λ (q : Result ℕ Fault × List ℕ). q.1) e

    abbrev outcome : WriteOutcome
    outcome = record { answer = as_written r; buffer = new }

    fitted : (b : Bool) (map : List ℕ) → Told r new (if b then (Err (unplaced MapBufferShort), old) else (Ok (length map), sets old 0 map)) → outcome ≡ (if b then unwritten old MapBufferShort else written old map)
    fitted true map e = rw (first e, last e, nowhere MapBufferShort)
    fitted false map e = rw (first e, last e)

    in_range : (b : Bool) (w : World) → Told r new (if b then map_fits old (map_of w start count) else (Err (unplaced BadMapRange), old)) → outcome ≡ (if b then map_outcome w start count old else unwritten old BadMapRange)
    in_range true w e = fitted (ltb (length old) (length (map_of w start count))) (map_of w start count) e
    in_range false w e = rw (first e, last e, nowhere BadMapRange)

    pub map_answer : Ran c old post r new → ((o : OpenCase) (lent left : MutBor (List ℕ)) (x : Result ℕ Fault) → post o lent x left → (x, left.now) ≡ map_into (open_world o) start count lent.now) → MapAnswer c start count old (as_written r) new
    unfolding map_call
    map_answer ran each = go (check_of c) refl (ran_in c old post r new ran (λ w old r new. (r, new) ≡ map_into w start count old) each)
      where
        go : (d : Read Sheet) → check_of c ≡ d → by_check c (λ f. (r ≡ Err f) × (new ≡ old)) (λ w. (r, new) ≡ map_into w start count old) d → MapAnswer c start count old (as_written r) new
        go (refused f) e k = record { same = rw (e, k.0, k.1); demand3 = rw e tt; grounded = case_grounded c }
        go (got s at) e k =
            let world : World = world_of s c.image c.pagefile in
            let same : outcome ≡ (if allowed world.space.mode start count then map_outcome world start count old else unwritten old BadMapRange) = in_range (allowed world.space.mode start count) world k in
            record {
              same = rw e same;
              demand3 = rw e (λ x. let inside : outcome ≡ map_outcome world start count old = rw x at same in rw inside (demand3 world (sound_case s c.image c.pagefile (laws s at e)) (small_image s at e) start count x old));
              grounded = case_grounded c;
            }
