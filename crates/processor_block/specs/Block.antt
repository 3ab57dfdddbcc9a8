-- 01 "Processor block and process list": the processor block of document 003, 64-bit Windows 7, and its search.
use Rattle.std.specs.Prelude.{ℕ, zero, suc, ◌+◌, ◌-◌, ◌%◌, Bool, false, ◌&&◌, List, length, ◌==◌, nat_le, nat_lt, if◌then◌else◌}
use Rattle.base.specs.Notation.{bits}
use Rattle.base.specs.declared.Refusal.TheVariants.{NoProcessorBlock}
use Rattle.entry.specs.Entry.{frame_of}
use Rattle.entry.specs.declared.Frame.{Frame}
use Rattle.entry.specs.declared.PagingMode.TheVariants.{FourLevel}
use Rattle.words.specs.Words.{word_at}
use Rattle.walk.specs.Walk.{World, Walked, resolve_of}
use Rattle.walk.specs.declared.Place.{Place}
use Rattle.walk.specs.declared.Place.TheVariants.{Image, Pagefile, Zeros, Refused}
use Rattle.case.specs.Answer.{refusal}
use Rattle.case.specs.declared.Answer.{Answer}

-- ---- a block

-- the words of a block at an image offset: Self, CurrentPrcb, and the directory word
abbrev pub self_word : List ℕ → ℕ → ℕ
self_word image o = word_at image (o + 0x18)

abbrev pub prcb_word : List ℕ → ℕ → ℕ
prcb_word image o = word_at image (o + 0x20)

abbrev pub directory_word : List ℕ → ℕ → ℕ
directory_word image o = word_at image (o + 0x1D0)

-- the place in the page, and the three words, as a block has them
unfoldable pub words_fit : List ℕ → ℕ → Bool
words_fit image o =
    nat_le (o % 4096) 0xE28
    && (nat_lt 0xFFFF000000000000 (self_word image o)
    && (nat_lt 0xFFFF000000000000 (prcb_word image o)
    && (prcb_word image o == self_word image o + 0x180
    && bits (directory_word image o) 48 51 == 0)))

-- the same world with four levels from another directory page
abbrev pub with_directory : Frame → World → World
with_directory d w = record { space = record { directory = d; mode = FourLevel }; page = w.page; image = w.image; pagefile = w.pagefile }

-- where Self leads, with the block's own directory page
unfoldable pub self_walk : World → ℕ → Walked
self_walk w o = resolve_of 3 (with_directory (frame_of (directory_word w.image o)) w) (self_word w.image o)

abbrev pub is_at : ℕ → Place → Bool
is_at o (Image p) = p == o
is_at o (Pagefile p) = false
is_at o Zeros = false
is_at o (Refused r) = false

-- does an image offset hold a block?
unfoldable pub is_block : World → ℕ → Bool
is_block w o = nat_lt o (length w.image) && (o % 8 == 0 && (words_fit w.image o && is_at o (self_walk w o).place))

-- ---- the search

-- the first block of n offsets
unfoldable pub first_block : ℕ → World → ℕ → Answer
first_block zero w o = refusal NoProcessorBlock
first_block (suc n) w o =
    if is_block w o then record { number = 1; offset = o; entries = length (self_walk w o).trace } else
    first_block n w (suc o)

-- the smallest offset not below the given one that holds a block
unfoldable pub block_from : World → ℕ → Answer
block_from w from = first_block (length w.image - from) w from
