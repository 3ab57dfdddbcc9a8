-- What the parts of the search hand back.
use Rattle.std.specs.Prelude.{◌≡◌, ℕ, ◌+◌, ◌*◌, ◌<◌, ◌≤◌, Bool, false, List, length, Option, Some, None, Result, Ok, Err, if◌then◌else◌}
use Rattle.base.specs.Refusal.{unplaced}
use Rattle.base.specs.declared.Fault.{Fault}
use Rattle.base.specs.declared.Refusal.TheVariants.{ModeNotServed}
use Rattle.entry.specs.declared.PagingMode.{PagingMode}
use Rattle.entry.specs.declared.PagingMode.TheVariants.{FourLevel, Plain, Pae}
use Rattle.walk.specs.Walk.{World}
use Rattle.case.specs.Answer.{fault_answer}
use Rattle.case.specs.declared.Answer.{Answer}
use Rattle.processor_block.specs.Block.{words_fit, self_walk, is_block, block_from}

-- of the words from i up to r none is at a place that fits
pub record NoneFit (image : List ℕ) (i r : ℕ) : Type 0 where
  pub onward : i ≤ r
  pub none : (k : ℕ) → i ≤ k → k < r → words_fit image (8 * k) ≡ false

-- where a test says no, none of the n words from i on is at a place that fits; when it says yes is free, since each of them is then judged
abbrev pub Passes : List ℕ → ℕ → ℕ → Bool → Type 0
Passes image i n r = r ≡ false → NoneFit image i (i + n)

-- the answer for a block at an offset
unfoldable pub block_at : World → ℕ → Option Answer
block_at w o = if is_block w o then Some (record { number = 1; offset = o; entries = length (self_walk w o).trace }) else None

-- the first block from word i on: among four words, or else the first from the fifth on
abbrev pub FirstOfFour : World → ℕ → Option Answer → Type 0
FirstOfFour w i (Some a) = a ≡ block_from w (8 * i)
FirstOfFour w i None = block_from w (8 * i) ≡ block_from w (8 * (i + 4))

-- what a search found, or what is at fault, as an answer
abbrev pub answer_of : Result Answer Fault → Answer
answer_of (Ok a) = a
answer_of (Err f) = fault_answer f

-- 37, then the search
abbrev pub block_in : PagingMode → World → ℕ → Answer
block_in FourLevel w from = block_from w from
block_in Plain w from = fault_answer (unplaced ModeNotServed)
block_in (Pae place) w from = fault_answer (unplaced ModeNotServed)
