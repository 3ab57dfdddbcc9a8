-- A page with two blocks, of 511 units and of 1: its headers, and each condition missed by one unit or one bit; the call at its edges.
use mathlib.Core.Path.{refl}
use mathlib.Core.Bool.{Bool, true, false}
use mathlib.Core.List.{List, [], ◌∷◌, ◌++◌}
use Prim.Native.Nat.{ℕ}
use lib.ListN.{replicate}
use Rattle.base.specs.Example.{Example, same, Hold}
use Rattle.base.specs.Written.{unwritten, written}
use Rattle.base.specs.declared.Refusal.TheVariants.{ImageNotWholePages}
use Rattle.words.specs.Words.{little_at}
use Rattle.pool.specs.Pool.{is_header, headers_from}
use Rattle.pool.specs.Call.{headers_call}

-- a header at the page's start and one in its last 8 bytes, with zeros between
abbrev page : List ℕ → List ℕ → List ℕ
page first last = first ++ replicate 4080 0 ++ last

-- do both hold?
abbrev held : List ℕ → List ℕ → List Bool
held first last = is_header (page first last) 0 ∷ is_header (page first last) 4088 ∷ []

-- PreviousSize 0, BlockSize 511, a tag with bit 31 set
abbrev first : List ℕ
first = 0x00 ∷ 0x00 ∷ 0xFF ∷ 0x01 ∷ 0x50 ∷ 0x72 ∷ 0x6F ∷ 0xE3 ∷ []

-- PreviousSize 511, BlockSize 1
abbrev last : List ℕ
last = 0xFF ∷ 0x01 ∷ 0x01 ∷ 0x00 ∷ 0x54 ∷ 0x68 ∷ 0x72 ∷ 0x65 ∷ []

pub headers : List Example
headers =
    same (held first last) (true ∷ true ∷ [])
    -- BlockSize 0; an end one unit past the page
    ∷ same (held (0x00 ∷ 0x00 ∷ 0x00 ∷ 0x00 ∷ 0x50 ∷ 0x72 ∷ 0x6F ∷ 0xE3 ∷ []) last) (false ∷ false ∷ [])
    ∷ same (held first (0xFF ∷ 0x01 ∷ 0x02 ∷ 0x00 ∷ 0x54 ∷ 0x68 ∷ 0x72 ∷ 0x65 ∷ [])) (true ∷ false ∷ [])
    -- a PreviousSize that reaches before the page: the block behind need not mind
    ∷ same (held (0x01 ∷ 0x00 ∷ 0xFF ∷ 0x01 ∷ 0x50 ∷ 0x72 ∷ 0x6F ∷ 0xE3 ∷ []) last) (false ∷ true ∷ [])
    -- sizes that do not name each other
    ∷ same (held first (0xFE ∷ 0x01 ∷ 0x01 ∷ 0x00 ∷ 0x54 ∷ 0x68 ∷ 0x72 ∷ 0x65 ∷ [])) (false ∷ false ∷ [])
    ∷ same (held (0x00 ∷ 0x00 ∷ 0xFE ∷ 0x01 ∷ 0x50 ∷ 0x72 ∷ 0x6F ∷ 0xE3 ∷ []) last) (false ∷ false ∷ [])
    -- bit 7, 15 or 23 of the tag
    ∷ same (held (0x00 ∷ 0x00 ∷ 0xFF ∷ 0x01 ∷ 0xD0 ∷ 0x72 ∷ 0x6F ∷ 0xE3 ∷ []) last) (false ∷ true ∷ [])
    ∷ same (held (0x00 ∷ 0x00 ∷ 0xFF ∷ 0x01 ∷ 0x50 ∷ 0xF2 ∷ 0x6F ∷ 0xE3 ∷ []) last) (false ∷ true ∷ [])
    ∷ same (held (0x00 ∷ 0x00 ∷ 0xFF ∷ 0x01 ∷ 0x50 ∷ 0x72 ∷ 0xEF ∷ 0xE3 ∷ []) last) (false ∷ true ∷ [])
    ∷ []

pub headers_hold : Hold headers
unfolding headers is_header little_at
headers_hold = (refl, (refl, (refl, (refl, (refl, (refl, (refl, (refl, (refl, tt)))))))))

pub calls : List Example
calls =
    same (headers_call [] []) (written [] [])
    ∷ same (headers_call (0x00 ∷ []) (7 ∷ [])) (unwritten (7 ∷ []) ImageNotWholePages)
    ∷ []

pub calls_hold : Hold calls
unfolding calls headers_call headers_from
calls_hold = (refl, (refl, tt))
