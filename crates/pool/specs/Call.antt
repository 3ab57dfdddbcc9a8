-- What the call hands back, and what that means.
use Rattle.std.specs.Prelude.{ℕ, ◌+◌, ◌-◌, ◌*◌, ◌%◌, ◌≤◌, ◌<◌, ◌≡◌, List, [], ◌∷◌, ltb, eqb, length, take, if◌then◌else◌}
use Rattle.base.specs.Codes.{member}
use Rattle.base.specs.Written.{WriteOutcome, unwritten, written}
use Rattle.base.specs.declared.Refusal.TheVariants.{ImageNotWholePages, PoolBufferShort}
use Rattle.base.specs.declared.Written.{Written}
use Rattle.pool.specs.Pool.{previous_size, block_size, block_end, is_header, headers_of}

-- 71 exactly if there are more headers than places; places past the headers stay
abbrev pub headers_outcome : List ℕ → List ℕ → WriteOutcome
headers_outcome image out =
    if ltb (length out) (length (headers_of image)) then unwritten out PoolBufferShort else
    written out (headers_of image)

-- 70, then 71
unfoldable pub headers_call : List ℕ → List ℕ → WriteOutcome
headers_call image out = if eqb (length image % 4096) 0 then headers_outcome image out else unwritten out ImageNotWholePages

abbrev pub Above : ℕ → List ℕ → Type 0
Above x [] = Unit {0}
Above x (y ∷ ys) = (x < y) × Above x ys

abbrev pub Ascends : List ℕ → Type 0
Ascends [] = Unit {0}
Ascends (x ∷ xs) = Above x xs × Ascends xs

-- the words that the rule asks for at an offset lie in the image: its own, and those of the blocks before and behind
pub record WordsInside (image : List ℕ) (o : ℕ) : Type 0 where
  pub own : o + 8 ≤ length image
  pub before : 8 * previous_size image o ≤ o % 4096 → (8 * previous_size image o ≤ o) × (o - 8 * previous_size image o + 8 ≤ length image)
  pub behind : block_end image o < 4096 → o + 8 * block_size image o + 8 ≤ length image

-- the call's promise: what it hands back, what that means, and that the rule asks for words of the image alone
pub record PoolAnswer (image old : List ℕ) (r : Written) (new : List ℕ) : Type 0 where
  pub same : record { answer = r; buffer = new } ≡ headers_call image old
  -- written: an offset is in the list exactly if it holds a header, and the list ascends
  pub exact : r.number ≡ 0 → (o : ℕ) → member o (take r.length new) ≡ is_header image o
  pub ascends : r.number ≡ 0 → Ascends (take r.length new)
  -- written or not: wherever `is_header` goes by words
  pub inside : length image % 4096 ≡ 0 → (o : ℕ) → o < length image → o % 8 ≡ 0 → WordsInside image o
