-- P1 to P12 of 01 hold of the written rules: one statement over a list of them.
use mathlib.Core.Path.{◌≡◌, refl}
use mathlib.Core.List.{List, [], ◌∷◌, map}
use Prim.Native.Nat.{ℕ}
use Rattle.base.specs.Example.{Example, Hold}
use Rattle.varint.proofs.Examples.{p10, p10_holds}
use Rattle.sheet.proofs.Examples.{p1, p1_holds}
use Rattle.walk.proofs.Examples.{p3, p3_holds, p5, p5_holds, p6, p6_holds, p7, p7_holds, p8, p8_holds, p9, p9_holds, p12, p12_holds}
use Rattle.address.proofs.Examples.{p4, p4_holds}
use Rattle.map_format.proofs.Examples.{p2, p2_holds}
use Rattle.process_list.proofs.Examples.{p11, p11_holds}

-- one of P1 to P12: its number, and what it says
pub record Paper : Type 1 where
  pub p : ℕ
  pub says : List Example

abbrev paper : ℕ → List Example → Paper
paper p says = record { p = p; says = says }

pub papers : List Paper
papers =
    paper 1 p1
    ∷ paper 2 p2
    ∷ paper 3 p3
    ∷ paper 4 p4
    ∷ paper 5 p5
    ∷ paper 6 p6
    ∷ paper 7 p7
    ∷ paper 8 p8
    ∷ paper 9 p9
    ∷ paper 10 p10
    ∷ paper 11 p11
    ∷ paper 12 p12
    ∷ []

abbrev pub AllHold : List Paper → Type 0
AllHold [] = Unit {0}
AllHold (q ∷ qs) = Hold q.says × AllHold qs

-- they are P1 to P12, each once and in order, and each holds
pub papers_hold : (map (λ q. q.p) papers ≡ 1 ∷ 2 ∷ 3 ∷ 4 ∷ 5 ∷ 6 ∷ 7 ∷ 8 ∷ 9 ∷ 10 ∷ 11 ∷ 12 ∷ []) × AllHold papers
unfolding papers
papers_hold = (refl, (p1_holds, (p2_holds, (p3_holds, (p4_holds, (p5_holds, (p6_holds, (p7_holds, (p8_holds, (p9_holds, (p10_holds, (p11_holds, (p12_holds, tt)))))))))))))
