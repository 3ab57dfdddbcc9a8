-- 01 "What the reader covers": the line that the small program prints for an address.
use Rattle.std.specs.Prelude.{ℕ, zero, suc, ◌+◌, ◌/◌, ◌%◌, ◌≡◌, List, [], ◌∷◌, ◌++◌, ltb, length, drop, if◌then◌else◌}
use Rattle.case.specs.declared.Answer.{Answer}

-- the ASCII code of a digit below 10
abbrev pub digit : ℕ → ℕ
digit d = 48 + d

-- a number in decimal: below 10 its digit, else the decimal form of a tenth of it, then its last digit; `most` bounds the steps
abbrev pub decimal_steps : ℕ → ℕ → List ℕ
decimal_steps zero n = digit n ∷ []
decimal_steps (suc most) n =
    if ltb n 10 then digit n ∷ [] else
    decimal_steps most (n / 10) ++ digit (n % 10) ∷ []

-- n steps are always enough: `decimal_small` and `decimal_more` have no bound
unfoldable pub decimal_of : ℕ → List ℕ
decimal_of n = decimal_steps n n

-- a number in decimal, and the byte after it
abbrev pub field_of : ℕ → ℕ → List ℕ
field_of n end = decimal_of n ++ end ∷ []

abbrev pub space : ℕ
space = 32

abbrev pub newline : ℕ
newline = 10

-- number, offset and entries read, one space between
unfoldable pub line_of : Answer → List ℕ
line_of a = field_of a.number space ++ field_of a.offset space ++ field_of a.entries newline

-- r bytes are the line, at the start of a lent buffer whose other bytes stay
pub record LineAt (line old : List ℕ) (r : ℕ) (new : List ℕ) : Type 0 where
  pub count : r ≡ length line
  pub bytes : new ≡ line ++ drop r old
