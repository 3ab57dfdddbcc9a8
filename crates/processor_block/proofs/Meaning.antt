-- What the search's answer means: a block is there, or none is anywhere, from the given offset on.
use Rattle.std.specs.Prelude.{if◌then◌else◌}
use Rattle.std.proofs.Common.{◌≡◌, ℕ, zero, suc, ◌+◌, ◌-◌, ◌%◌, ◌<◌, ◌≤◌, Bool, true, false, length, sym, refl, ◌∙◌, arith}
use mathlib.Core.Bool.{false≢true}
use Rattle.base.proofs.Test.{Test, test, below, above}
use Rattle.entry.specs.Entry.{frame_of}
use Rattle.entry.specs.declared.Frame.{Frame}
use Rattle.walk.specs.Walk.{World, Grounded}
use Rattle.entry.specs.declared.PagingMode.TheVariants.{FourLevel}
use Rattle.walk.proofs.Cycle.{placed_fits}
use Rattle.walk.proofs.Ground.{Sound, grounded}
use Rattle.case.specs.declared.Answer.{Answer}
use Rattle.processor_block.specs.Block.{self_word, directory_word, words_fit, with_directory, self_walk, is_block, first_block, block_from}
use Rattle.processor_block.specs.Call.{GroundedCandidate, GroundedBlock, ExactBlock}
use Rattle.processor_block.proofs.Fitting.{fit_near, whole, past_image, unfit}

module _ (w : World) (sound : Sound w) (pages : length w.image % 4096 ≡ 0) where
  sound_under : (d : Frame) → Sound (with_directory d w)
  sound_under d = record { top = placed_fits FourLevel; whole = sound.whole }

  self_grounded : (o : ℕ) → Grounded (with_directory (frame_of (directory_word w.image o)) w) (self_walk w o)
  unfolding self_walk
  self_grounded o = grounded (with_directory (frame_of (directory_word w.image o)) w) (sound_under (frame_of (directory_word w.image o))) (self_word w.image o)

  pub candidate_at : (o : ℕ) → o < length w.image → o % 4096 ≤ 0xE28 → GroundedCandidate w o
  candidate_at o l p = record { inside = whole o (length w.image) l pages p; grounded = self_grounded o }

  module _ (o : ℕ) (h : is_block w o ≡ true) where
    in_image : Test o (length w.image) → o < length w.image
    in_image (below l) = l
    in_image (above l) = absurd (false≢true (sym (past_image w o l) ∙ h))

    fits : (b : Bool) → words_fit w.image o ≡ b → words_fit w.image o ≡ true
    fits true e = e
    fits false e = absurd (false≢true (sym (unfit w o e) ∙ h))

    held : GroundedBlock w o
    held = record { holds = h; candidate = candidate_at o (in_image (test o (length w.image))) (fit_near w.image o (fits (words_fit w.image o) refl)) }

  -- n offsets from o on reach the image's end
  exact_first : (n o : ℕ) → length w.image ≤ o + n → ExactBlock w o (first_block n w o)
  unfolding first_block
  exact_first zero o l = record {
    found = λ e. absurd (omega (arith, e));
    first = λ e. absurd (omega (arith, e));
    other = λ e. refl;
    nowhere = λ e p h. past_image w p (omega arith);
  }
  exact_first (suc n) o l = go (is_block w o) refl (exact_first n (suc o) (omega arith))
    where
      here : Answer
      here = record { number = 1; offset = o; entries = length (self_walk w o).trace }

      go : (b : Bool) → is_block w o ≡ b → ExactBlock w (suc o) (first_block n w (suc o)) → ExactBlock w o (if b then here else first_block n w (suc o))
      go true e q = record {
        found = λ f. (omega arith, (held o e, refl));
        first = λ f p h g. absurd (omega arith);
        other = λ f. absurd (f refl);
        nowhere = λ f. absurd (omega (arith, f));
      }
      go false e q = record {
        found = λ f. let t = q.found f in (omega (arith, t.0), t.1);
        first = λ f p h g. later p h (λ k. q.first f p k g) (test o p);
        other = q.other;
        nowhere = λ f p h. later p h (λ k. q.nowhere f p k) (test o p);
      }
        where
          later : (p : ℕ) → o ≤ p → (suc o ≤ p → is_block w p ≡ false) → Test o p → is_block w p ≡ false
          later p h k (below g) = k (omega arith)
          later p h k (above g) =
              let z : p ≡ o = omega arith in
              rw z e

  pub exact_from : (from : ℕ) → ExactBlock w from (block_from w from)
  unfolding block_from
  exact_from from = exact_first (length w.image - from) from (omega arith)
