-- What the parts of the search hand back.
use Rattle.std.specs.Prelude.{ℕ, ◌+◌, ◌-◌, ◌*◌, ◌%◌, Bool, ◌&&◌, ◌||◌, List, leb, eqb, Result, Ok, Err}
use Rattle.base.specs.Notation.{bits}
use Rattle.base.specs.Written.{WriteOutcome, not_written}
use Rattle.base.specs.declared.Refusal.{Refusal}
use Rattle.base.specs.declared.Written.{Written}
use Rattle.pool.specs.Pool.{previous_size, block_size, tag_fits}

-- what the call answers for a number of headers, or for a refusal
abbrev pub answer_of : Result ℕ Refusal → Written
answer_of (Ok n) = record { number = 0; length = n }
answer_of (Err r) = not_written r

-- with the lent buffer after it
abbrev pub answered : Result ℕ Refusal → List ℕ → WriteOutcome
answered r out = record { answer = answer_of r; buffer = out }

-- can a word begin a block, wherever it stands?
abbrev pub may_begin : ℕ → Bool
may_begin word = leb 1 (bits word 16 24) && tag_fits (bits word 32 63)

-- a block of these sizes ends inside its page; the block behind and the block before, if they are in the page, name its sizes
unfoldable pub is_chained : List ℕ → ℕ → ℕ → ℕ → Bool
is_chained image o previous size =
    leb (o % 4096 + 8 * size) 4096
    && ((leb 4096 (o % 4096 + 8 * size) || eqb (previous_size image (o + 8 * size)) size)
    && (leb (8 * previous) (o % 4096)
    && (eqb (o % 4096) 0 || eqb (block_size image (o - 8 * previous)) previous)))
