-- P4 of 01, for the statement over P1 to P12: the address call's answer and the small program's line, for every accepted case; and other lines as bytes.
use mathlib.Core.Path.{◌≡◌, refl}
use mathlib.Core.List.{List, [], ◌∷◌}
use Prim.Native.Nat.{ℕ}
use Rattle.base.specs.Example.{Example, same, every, Hold}
use Rattle.varint.specs.Reader.{Read, got, refused}
use Rattle.sheet.specs.Sheet.{Sheet}
use Rattle.entry.proofs.Addresses.{p4_unreachable}
use Rattle.walk.specs.Walk.{resolve_of}
use Rattle.case.specs.Case.{Case, check_of, by_check, in_case}
use Rattle.case.specs.Answer.{answer_of, fault_answer}
use Rattle.case.specs.declared.Answer.{Answer}
use Rattle.address.specs.Call.{address_of}
use Rattle.address.specs.Line.{decimal_of, line_of}

abbrev answer : ℕ → ℕ → ℕ → Answer
answer number offset entries = record { number = number; offset = offset; entries = entries }

Accepted : Case → Type 0
Accepted c = in_case c (λ f. ⊥) (λ w. Unit {0})

-- `20 0 0` and a newline
pub p4 : List Example
p4 =
    every Accepted (λ c. address_of c 0x0000800000000000) (λ c. answer 20 0 0)
    ∷ every Accepted (λ c. line_of (address_of c 0x0000800000000000)) (λ c. 50 ∷ 48 ∷ 32 ∷ 48 ∷ 32 ∷ 48 ∷ 10 ∷ [])
    ∷ []

not_canonical : (c : Case) → Accepted c → address_of c 0x0000800000000000 ≡ answer 20 0 0
unfolding Accepted address_of resolve_of
not_canonical c = go (check_of c)
  where
    go : (d : Read Sheet) → by_check c (λ f. ⊥) (λ w. Unit {0}) d → by_check c fault_answer (λ w. answer_of (resolve_of 3 w 0x0000800000000000)) d ≡ answer 20 0 0
    go (got s at) h = rw (p4_unreachable s.space.mode)
    go (refused r) h = absurd h

pub p4_holds : Hold p4
unfolding p4 line_of decimal_of
p4_holds = (not_canonical, (λ c h. rw (not_canonical c h), tt))

-- `3 0 4` and `2 4096 19`
pub lines : List Example
lines =
    same (line_of (answer 3 0 4)) (51 ∷ 32 ∷ 48 ∷ 32 ∷ 52 ∷ 10 ∷ [])
    ∷ same (line_of (answer 2 4096 19)) (50 ∷ 32 ∷ 52 ∷ 48 ∷ 57 ∷ 54 ∷ 32 ∷ 49 ∷ 57 ∷ 10 ∷ [])
    ∷ []

pub lines_hold : Hold lines
unfolding lines line_of decimal_of
lines_hold = (refl, (refl, tt))
