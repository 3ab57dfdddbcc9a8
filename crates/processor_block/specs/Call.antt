-- What the search hands back, and what that means.
use Rattle.std.specs.Prelude.{◌≡◌, ℕ, ◌+◌, ◌%◌, ◌<◌, ◌≤◌, true, false, length, ◌≢◌}
use Rattle.base.specs.Refusal.{refusal_number}
use Rattle.base.specs.declared.Refusal.TheVariants.{NoProcessorBlock}
use Rattle.entry.specs.Entry.{frame_of}
use Rattle.walk.specs.Walk.{World, Grounded}
use Rattle.case.specs.Case.{Case, in_four_levels, ForFourLevels}
use Rattle.case.specs.Answer.{refusal, fault_answer}
use Rattle.case.specs.declared.Answer.{Answer}
use Rattle.processor_block.specs.Block.{directory_word, with_directory, self_walk, is_block, block_from}

unfoldable pub block_of : Case → ℕ → Answer
block_of c from = in_four_levels c fault_answer (λ w. block_from w from)

-- the words of a block at an offset lie in the image, and its Self rests on what the files hold
pub record GroundedCandidate (w : World) (o : ℕ) : Type 0 where
  pub inside : o + 0x1D8 ≤ length w.image
  pub grounded : Grounded (with_directory (frame_of (directory_word w.image o)) w) (self_walk w o)

pub record GroundedBlock (w : World) (o : ℕ) : Type 0 where
  pub holds : is_block w o ≡ true
  pub candidate : GroundedCandidate w o

pub record ExactBlock (w : World) (from : ℕ) (r : Answer) : Type 0 where
  -- found: a block is there, and at no smaller offset from the given one on
  pub found : r.number ≡ 1 → (from ≤ r.offset) × (GroundedBlock w r.offset × (r.entries ≡ length (self_walk w r.offset).trace))
  pub first : r.number ≡ 1 → (o : ℕ) → from ≤ o → o < r.offset → is_block w o ≡ false
  -- otherwise 55: no block from the given offset on
  pub other : (r.number ≢ 1) → r ≡ refusal NoProcessorBlock
  pub nowhere : r.number ≡ refusal_number NoProcessorBlock → (o : ℕ) → from ≤ o → is_block w o ≡ false

-- the search's promise: what it hands back, what that means, and that every candidate rests on what the files hold
pub record BlockAnswer (c : Case) (from : ℕ) (r : Answer) : Type 0 where
  pub same : r ≡ block_of c from
  pub exact : ForFourLevels c (λ w. ExactBlock w from r)
  -- found or not: wherever `is_block` goes by words
  pub candidates : ForFourLevels c (λ w. (o : ℕ) → from ≤ o → o < length w.image → o % 8 ≡ 0 → o % 4096 ≤ 0xE28 → GroundedCandidate w o)
