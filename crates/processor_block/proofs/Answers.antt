-- From the search of an opened case to what the call hands back.
use Rattle.std.proofs.Common.{◌≡◌, ℕ, ◌%◌, List, length, MutBor, Result, Ok, Err, refl, sym, ap, ◌∙◌, arith}
use Rattle.base.specs.Refusal.{unplaced}
use Rattle.base.specs.declared.Fault.{Fault}
use Rattle.base.specs.declared.Refusal.{Refusal}
use Rattle.base.specs.declared.Refusal.TheVariants.{ModeNotServed, NoProcessorBlock}
use Rattle.varint.specs.Reader.{Read, got, refused}
use Rattle.entry.specs.declared.PagingMode.{PagingMode}
use Rattle.entry.specs.declared.PagingMode.TheVariants.{FourLevel, Plain, Pae}
use Rattle.sheet.specs.Sheet.{Sheet}
use Rattle.sheet.proofs.AcceptedCase.{AcceptedCase, accepted_laws}
use Rattle.walk.specs.Walk.{World, world_of}
use Rattle.walk.specs.Rows.{placed_mode}
use Rattle.walk.proofs.Ground.{Sound}
use Rattle.walk.proofs.CaseWorld.{sound_case}
use Rattle.resolution.specs.Open.{open_world}
use Rattle.resolution.specs.declared.OpenCase.{OpenCase}
use Rattle.case.specs.Case.{Case, check_of, by_check, served_in, served}
use Rattle.case.specs.Answer.{refusal, fault_answer}
use Rattle.case.specs.Inner.{four_levels_case}
use Rattle.case.specs.Run.{MayRun, Ran}
use Rattle.case.specs.declared.Answer.{Answer}
use Rattle.case.proofs.Running.{ran_in, nowhere}
use Rattle.processor_block.specs.Block.{block_from}
use Rattle.processor_block.specs.Call.{block_of, BlockAnswer}
use Rattle.processor_block.specs.Inner.{answer_of, block_in}
use Rattle.processor_block.proofs.Meaning.{candidate_at, exact_from}

-- ---- the closure

module _ (m : PagingMode) (o : OpenCase) (from : ℕ) (d : Result OpenCase Refusal) (e : d ≡ four_levels_case m o) where
  pub not_served : (x : Refusal) → d ≡ Err x → fault_answer (unplaced x) ≡ block_in m (open_world o) from
  not_served x f = go m (sym e ∙ f)
    where
      go : (m : PagingMode) → four_levels_case m o ≡ Err x → fault_answer (unplaced x) ≡ block_in m (open_world o) from
      go FourLevel g = cc
      go Plain g =
          let same : x ≡ ModeNotServed = cc in
          rw same
      go (Pae place) g =
          let same : x ≡ ModeNotServed = cc in
          rw same

  pub served_block : (k : OpenCase) → d ≡ Ok k → block_from (open_world k) from ≡ block_in m (open_world o) from
  served_block k f = go m (sym e ∙ f)
    where
      go : (m : PagingMode) → four_levels_case m o ≡ Ok k → block_from (open_world k) from ≡ block_in m (open_world o) from
      go FourLevel g =
          let same : o ≡ k = cc in
          rw same
      go Plain g = cc
      go (Pae place) g = cc

  pub served_image : (k : OpenCase) → d ≡ Ok k → length o.image.now % 4096 ≡ 0 → length k.image.now % 4096 ≡ 0
  served_image k f h = go m (sym e ∙ f)
    where
      go : (m : PagingMode) → four_levels_case m o ≡ Ok k → length k.image.now % 4096 ≡ 0
      go FourLevel g =
          let same : k ≡ o = cc in
          rw same h
      go Plain g = cc
      go (Pae place) g = cc

pub none_found : fault_answer (unplaced NoProcessorBlock) ≡ refusal NoProcessorBlock
none_found = rw (nowhere NoProcessorBlock)

-- ---- the call

placed_block : (m : PagingMode) (w : World) (from : ℕ) → block_in m w from ≡ block_in (placed_mode m) w from
placed_block FourLevel w from = refl
placed_block Plain w from = refl
placed_block (Pae place) w from = refl

module _ (c : Case) where
  module _ (s : Sheet) (at : ℕ) (e : check_of c ≡ got s at) where
    abbrev laws : AcceptedCase (length c.image) (length c.pagefile) s
    laws = accepted_laws c.sheet (length c.image) (length c.pagefile) s at e

    sound : Sound (world_of s c.image c.pagefile)
    sound = sound_case s c.image c.pagefile laws

    -- an accepted image has whole pages
    whole_pages : length c.image % 4096 ≡ 0
    whole_pages = omega (arith, laws.image_pages)

  pub may_search : (P : OpenCase → Type 0) → ((o : OpenCase) → length o.image.now % 4096 ≡ 0 → P o) → MayRun c P
  may_search P h = go (check_of c) refl
    where
      go : (d : Read Sheet) → check_of c ≡ d → by_check c (λ f. Unit {0}) (λ w. (o : OpenCase) → open_world o ≡ w → P o) d
      go (refused f) e = tt
      go (got s at) e = λ o f. h o (rw (ap (λ (w : World). w.image) f) (whole_pages s at e))

  pub block_answer : (from : ℕ) (old : List ℕ) (post : OpenCase → MutBor (List ℕ) → Result Answer Fault → MutBor (List ℕ) → Type 0) (r : Result Answer Fault) (new : List ℕ) → Ran c old post r new
      → ((o : OpenCase) (lent left : MutBor (List ℕ)) (x : Result Answer Fault) → post o lent x left → answer_of x ≡ block_in o.space.mode (open_world o) from) → BlockAnswer c from (answer_of r)
  unfolding block_of
  block_answer from old post r new ran each =
      go (check_of c) refl (ran_in c old post r new ran (λ w old r new. answer_of r ≡ block_in w.space.mode w from) (λ o lent left x p. each o lent left x p ∙ placed_block o.space.mode (open_world o) from))
    where
      by_mode : (s : Sheet) (at : ℕ) → check_of c ≡ got s at → (m : PagingMode) → s.space.mode ≡ m → answer_of r ≡ block_in m (world_of s c.image c.pagefile) from → BlockAnswer c from (answer_of r)
      by_mode s at e FourLevel f k =
          let check : served (check_of c) ≡ got s at = rw e (ap (λ (m : PagingMode). served_in m (got s at)) f) in
          record {
            same = rw (check, k);
            exact = rw (check, k) (exact_from (world_of s c.image c.pagefile) (sound s at e) (whole_pages s at e) from);
            candidates = rw check (λ o l h a p. candidate_at (world_of s c.image c.pagefile) (sound s at e) (whole_pages s at e) o h p);
          }
      by_mode s at e Plain f k =
          let check : served (check_of c) ≡ refused (unplaced ModeNotServed) = rw e (ap (λ (m : PagingMode). served_in m (got s at)) f) in
          record { same = rw (check, k); exact = rw check tt; candidates = rw check tt }
      by_mode s at e (Pae place) f k =
          let check : served (check_of c) ≡ refused (unplaced ModeNotServed) = rw e (ap (λ (m : PagingMode). served_in m (got s at)) f) in
          record { same = rw (check, k); exact = rw check tt; candidates = rw check tt }

      go : (d : Read Sheet) → check_of c ≡ d → by_check c (λ f. (r ≡ Err f) × (new ≡ old)) (λ w. answer_of r ≡ block_in w.space.mode w from) d → BlockAnswer c from (answer_of r)
      go (refused f) e k = record { same = rw (e, k.0); exact = rw e tt; candidates = rw e tt }
      go (got s at) e k = by_mode s at e s.space.mode refl k
