-- Following the links node by node, and the two passes.
use Rattle.std.specs.Prelude.{if◌then◌else◌, Result, Ok, Err}
use mathlib.Core.Path.{◌≡◌, refl, sym, ap, ◌∙◌}
use mathlib.Core.List.{List, [], ◌∷◌, ◌++◌, append_assoc, append-nil}
use Prim.Native.Nat.{ℕ, suc, ◌+◌, ◌-◌, ◌≤◌, ◌<◌}
use native.Mathlib.Omega.{arith}
use lib.Dec.{eqb}
use lib.ListN.{length, set, length-append}
use lib.Seq.{sets, length-sets}
use borrow.Author.Tests.{eq-eqb, ne_eqb}
use Rattle.base.specs.declared.Refusal.{Refusal}
use Rattle.base.specs.declared.Refusal.TheVariants.{ListBufferShort, TooManyProcesses}
use Rattle.base.proofs.Overlay.{sets_append}
use Rattle.walk.specs.Walk.{World}
use Rattle.process_list.specs.declared.link.Link.{Link}
use Rattle.process_list.specs.List.{and_then, next_node, Nodes, unless_head, nodes_after}
use Rattle.process_list.specs.Inner.{linked, NodesLaid, Pass}

-- nodes that were met before
abbrev before : List ℕ → Nodes → Nodes
before xs ns = and_then ns (λ ys. Ok (xs ++ ys))

before_none : (ns : Nodes) → ns ≡ before [] ns
before_none (Ok xs) = refl
before_none (Err r) = refl

before_node : (xs : List ℕ) (y : ℕ) (ns : Nodes) → before xs (and_then ns (λ ys. Ok (y ∷ ys))) ≡ before (xs ++ (y ∷ [])) ns
before_node xs y (Ok ys) = rw append_assoc
before_node xs y (Err r) = refl

-- i nodes are listed, the last of them (or the head) is x
pub record Following (w : World) (h room : ℕ) (old : List ℕ) (i x : ℕ) (out : List ℕ) : Type 0 where
  pub done : List ℕ
  pub long : length done ≡ i
  pub within : i ≤ room
  pub same : nodes_after 4096 w room h h ≡ before done (nodes_after (4096 - i) w (room - i) h x)
  pub laid : out ≡ sets old 0 done

pub following_none : (w : World) (h room : ℕ) (old : List ℕ) → Following w h room old 0 h old
following_none w h room old =
    let e : room - 0 ≡ room = omega arith in
    record { done = []; long = refl; within = omega arith; same = rw e (before_none (nodes_after 4096 w room h h)); laid = refl }

module _ {w : World} {h room : ℕ} {old : List ℕ} {i x : ℕ} {out : List ℕ} (q : Following w h room old i x out) where
  pub following_long : length out ≡ length old
  following_long = rw q.laid (length-sets old 0 q.done)

  stopped : (r : Refusal) → nodes_after (4096 - i) w (room - i) h x ≡ Err r → Pass (nodes_after 4096 w room h h) old (Err r) out
  stopped r e =
      let all : nodes_after 4096 w room h h ≡ Err r = q.same ∙ rw e in
      record { answer = rw all; buffer = rw all following_long }

  closed : nodes_after (4096 - i) w (room - i) h x ≡ Ok [] → Pass (nodes_after 4096 w room h h) old (Ok i) out
  closed e =
      let all : nodes_after 4096 w room h h ≡ Ok q.done = q.same ∙ rw (e, append-nil) in
      record { answer = rw (all, q.long); buffer = rw all q.laid }

  module _ (l : Result Link Refusal) (f : linked l ≡ next_node w x) (more : i < 4096) where
    judge : ℕ → Nodes
    judge y = if eqb (room - i) 0 then Err ListBufferShort else and_then (nodes_after (4096 - (i + 1)) w (room - (i + 1)) h y) (λ ys. Ok (y ∷ ys))

    step : nodes_after (4096 - i) w (room - i) h x ≡ unless_head h judge (next_node w x)
    unfolding nodes_after judge
    step =
        let e : 4096 - i ≡ suc (4096 - (i + 1)) = omega arith in
        let f : room - i - 1 ≡ room - (i + 1) = omega arith in
        rw (e, f)

    pub link_broken : (r : Refusal) → l ≡ Err r → Pass (nodes_after 4096 w room h h) old (Err r) out
    link_broken r e =
        let broken : next_node w x ≡ Err r = rw (← f, e) in
        stopped r (step ∙ rw broken)

    module _ (link : Link) (k : l ≡ Ok link) where
      abbrev y : ℕ
      y = link.address

      e : next_node w x ≡ Ok y
      e = rw (← f, k)

      pub back_at_head : y ≡ h → Pass (nodes_after 4096 w room h h) old (Ok i) out
      back_at_head g = closed (step ∙ rw (e, eq-eqb y h g))

      module _ (g : y ≡ h → ⊥) where
        pub no_room : i ≡ room → Pass (nodes_after 4096 w room h h) old (Err ListBufferShort) out
        unfolding judge
        no_room k = stopped ListBufferShort (step ∙ rw (e, ne_eqb y h g, eq-eqb (room - i) 0 (omega arith)))

        pub node_listed : (i ≡ room → ⊥) → (new : List ℕ) → new ≡ set out i y → Following w h room old (i + 1) y new
        unfolding judge
        node_listed k new s =
            let within : i < room = omega (arith, q.within) in
            let here : 0 + length q.done ≡ length q.done = omega arith in
            let some : room - i ≡ 0 → ⊥ = λ z. k (omega (arith, q.within)) in
            let next : nodes_after (4096 - i) w (room - i) h x ≡ and_then (nodes_after (4096 - (i + 1)) w (room - (i + 1)) h y) (λ ys. Ok (y ∷ ys)) = step ∙ rw (e, ne_eqb y h g, ne_eqb (room - i) 0 some) in
            record {
              done = q.done ++ (y ∷ []);
              long = rw length-append (omega (arith, q.long));
              within = omega arith;
              same = q.same ∙ ap (before q.done) next ∙ before_node q.done y (nodes_after (4096 - (i + 1)) w (room - (i + 1)) h y);
              laid = s ∙ rw (q.laid, ← q.long) (sym (rw here at (sets_append old 0 q.done (y ∷ []))));
            }

  -- after the 4,096th node the list ends at the head, or has one node too many
  module _ (l : Result Link Refusal) (f : linked l ≡ next_node w x) (all : i ≡ 4096) where
    last : nodes_after (4096 - i) w (room - i) h x ≡ unless_head h (λ y. Err TooManyProcesses) (next_node w x)
    unfolding nodes_after
    last =
        let none : 4096 - i ≡ 0 = omega arith in
        rw none

    pub last_broken : (r : Refusal) → l ≡ Err r → Pass (nodes_after 4096 w room h h) old (Err r) out
    last_broken r e = stopped r (last ∙ rw (← f, e))

    pub last_at_head : (link : Link) → l ≡ Ok link → link.address ≡ h → Pass (nodes_after 4096 w room h h) old (Ok 4096) out
    last_at_head link e g = rw all at (closed (last ∙ rw (← f, e, eq-eqb link.address h g)))

    pub one_too_many : (link : Link) → l ≡ Ok link → (link.address ≡ h → ⊥) → Pass (nodes_after 4096 w room h h) old (Err TooManyProcesses) out
    one_too_many link e g = stopped TooManyProcesses (last ∙ rw (← f, e, ne_eqb link.address h g))

pub pass_long : {ns : Nodes} {old : List ℕ} {r : Result ℕ Refusal} {new : List ℕ} → Pass ns old r new → length new ≡ length old
pass_long {ns} {old} {r} {new} p = go ns p.buffer
  where
    go : (ns : Nodes) → NodesLaid old ns new → length new ≡ length old
    go (Ok xs) l = rw l (length-sets old 0 xs)
    go (Err z) l = l
