-- 02, order 1: the pool headers of 32-bit Windows XP and later (document 001, section 2.3 and figure 1, the lower layout).
use Rattle.std.specs.Prelude.{ℕ, zero, suc, ◌+◌, ◌-◌, ◌*◌, ◌%◌, Bool, not, ◌&&◌, ◌||◌, List, [], ◌∷◌, ltb, leb, eqb, length, if◌then◌else◌}
use Rattle.base.specs.Notation.{bits, bit}
use Rattle.words.specs.Words.{word_at}

-- ---- a header

-- two words of 16 bits and a tag of 32, lowest byte first, are one word of 8 bytes; sizes count 8 bytes
abbrev pub previous_size : List ℕ → ℕ → ℕ
previous_size image o = bits (word_at image o) 0 8

abbrev pub block_size : List ℕ → ℕ → ℕ
block_size image o = bits (word_at image o) 16 24

abbrev pub tag : List ℕ → ℕ → ℕ
tag image o = bits (word_at image o) 32 63

-- where its block ends, from the start of the page
abbrev pub block_end : List ℕ → ℕ → ℕ
block_end image o = o % 4096 + 8 * block_size image o

-- tag AND 0x00808080 is 0
abbrev pub tag_fits : ℕ → Bool
tag_fits t = not (bit t 7) && (not (bit t 15) && not (bit t 23))

-- does an image offset hold a header?
unfoldable pub is_header : List ℕ → ℕ → Bool
is_header image o =
    ltb o (length image)
    && (eqb (o % 8) 0
    && (leb 1 (block_size image o)
    && (leb (block_end image o) 4096
    && ((if eqb (o % 4096) 0 then eqb (previous_size image o) 0 else not (eqb (previous_size image o) 0))
    && (leb (8 * previous_size image o) (o % 4096)
    && ((eqb (o % 4096) 0 || eqb (block_size image (o - 8 * previous_size image o)) (previous_size image o))
    && ((leb 4096 (block_end image o) || eqb (previous_size image (o + 8 * block_size image o)) (block_size image o))
    && tag_fits (tag image o))))))))

-- ---- the list

-- those of n offsets that hold a header, ascending
unfoldable pub headers_from : ℕ → List ℕ → ℕ → List ℕ
headers_from zero image o = []
headers_from (suc n) image o = if is_header image o then o ∷ headers_from n image (suc o) else headers_from n image (suc o)

abbrev pub headers_of : List ℕ → List ℕ
headers_of image = headers_from (length image) image 0
