-- A list is accepted exactly if it closes, forward and back; its nodes are all different and none is the head.
use Rattle.std.specs.Prelude.{if◌then◌else◌, Result, Ok, Err}
use mathlib.Core.Path.{◌≡◌, refl, sym, ap, ◌∙◌}
use mathlib.Core.Bool.{Bool, true, false}
use mathlib.Core.List.{List, [], ◌∷◌}
use Prim.Native.Nat.{ℕ, zero, suc, ◌+◌, ◌-◌, ◌%◌, ◌≤◌}
use native.Mathlib.Omega.{arith}
use lib.Dec.{eqb}
use lib.ListN.{length, take, drop}
use lib.Seq.{sets, sets-eq, take_at}
use borrow.Author.Tests.{eqb-true, eqb-false, eq-eqb, ne_eqb}
use Rattle.base.specs.Written.{written}
use Rattle.base.specs.Refusal.{refusal_number}
use Rattle.base.specs.declared.Refusal.{Refusal}
use Rattle.base.specs.declared.Refusal.TheVariants.{ListBufferShort, TooManyProcesses, LinkUnaligned}
use Rattle.base.proofs.Numbers.{ten_or_more}
use Rattle.walk.specs.Walk.{World}
use Rattle.process_list.specs.List.{and_then, aligned, next_node, Nodes, nodes_after, nodes_of}
use Rattle.process_list.specs.Call.{nodes_outcome}
use Rattle.process_list.specs.Exact.{Follows, Closes, Absent, AllDifferent, ClosedList, ExactList}
use Rattle.process_list.proofs.Links.{then_ok, if_ok, follows_next, next_follows}

-- ---- all different

module _ (w : World) (h : ℕ) where
  -- a forward word leads to one node
  one_next : (x y z : ℕ) → Follows w x y → Follows w x z → y ≡ z
  one_next x y z p q = let e : Ok y ≡ Ok z = sym p.forward ∙ q.forward in cc

  one_length : (x : ℕ) (xs ys : List ℕ) → Closes w h x xs → Closes w h x ys → length xs ≡ length ys
  one_length x [] [] p q = refl
  one_length x [] (y ∷ ys) p q = absurd (q.1.0 (one_next x y h q.0 p))
  one_length x (y ∷ xs) [] p q = absurd (p.1.0 (one_next x y h p.0 q))
  one_length x (y ∷ xs) (z ∷ ys) p q =
      let e : z ≡ y = one_next x z y q.0 p.0 in
      ap suc (one_length y xs ys p.1.1 (rw e at q.1.1))

  -- a node is not met again on the way to the head
  absent : (x : ℕ) (xs : List ℕ) → Closes w h x xs → (y : ℕ) (ys : List ℕ) → Closes w h y ys → length ys ≤ length xs → Absent x ys
  absent x xs p y [] q l = tt
  absent x xs p y (z ∷ zs) q l = (λ e. differs e, absent x xs p z zs q.1.1 (omega arith))
    where
      differs : x ≡ z → ⊥
      differs e =
          let same : length xs ≡ length zs = one_length x xs zs p (rw (sym e) at q.1.1) in
          absurd (omega arith)

  different_nodes : (x : ℕ) (xs : List ℕ) → Closes w h x xs → AllDifferent (x ∷ xs)
  different_nodes x [] p = (tt, tt)
  different_nodes x (y ∷ ys) p = (absent x (y ∷ ys) p x (y ∷ ys) p (omega arith), different_nodes y ys p.1.1)

-- ---- the nodes found close

pub record Found (w : World) (n room h x : ℕ) (xs : List ℕ) : Type 0 where
  pub closes : Closes w h x xs
  pub most : length xs ≤ n
  pub fits : length xs ≤ room

else_ok : {A : Type 0} (t : Bool) (r : Refusal) (l : Result A Refusal) (x : A) → (if t then Err r else l) ≡ Ok x → (t ≡ false) × (l ≡ Ok x)
else_ok true r l x e = cc
else_ok false r l x e = (refl, e)

module _ (w : World) (h : ℕ) where
  at_head : (n room x y : ℕ) (xs : List ℕ) → next_node w x ≡ Ok y → eqb y h ≡ true → [] ≡ xs → Found w n room h x xs
  at_head n room x y xs f t e =
      let same : y ≡ h = eqb-true y h t in
      rw (← e) (record { closes = rw same at (next_follows w x y f); most = omega arith; fits = omega arith })

  nodes_close : (n room x : ℕ) (xs : List ℕ) → nodes_after n w room h x ≡ Ok xs → Found w n room h x xs
  unfolding nodes_after
  nodes_close zero room x xs e =
      let (y, f, g) = then_ok (next_node w x) _ xs e in
      let (t, none) = if_ok (eqb y h) [] xs TooManyProcesses g in
      at_head zero room x y xs f t none
  nodes_close (suc n) room x xs e =
      let (y, f, g) = then_ok (next_node w x) _ xs e in
      go y f (nodes_close n (room - 1) y) (eqb y h) refl g
    where
      go : (y : ℕ) → next_node w x ≡ Ok y → ((ys : List ℕ) → nodes_after n w (room - 1) h y ≡ Ok ys → Found w n (room - 1) h y ys) → (t : Bool) → eqb y h ≡ t
          → (if t then Ok [] else (if eqb room 0 then Err ListBufferShort else and_then (nodes_after n w (room - 1) h y) (λ ys. Ok (y ∷ ys)))) ≡ Ok xs → Found w (suc n) room h x xs
      go y f deeper true t g = at_head (suc n) room x y xs f t cc
      go y f deeper false t g =
          let (some, k) = else_ok (eqb room 0) ListBufferShort _ xs g in
          let (ys, l, m) = then_ok (nodes_after n w (room - 1) h y) _ xs k in
          let more : y ∷ ys ≡ xs = cc in
          let q : Found w n (room - 1) h y ys = deeper ys l in
          let room_left : room ≡ 0 → ⊥ = eqb-false room 0 some in
          rw (← more) (record { closes = (next_follows w x y f, (eqb-false y h t, q.closes)); most = omega (arith, q.most); fits = filled ys room_left q.fits })
        where
          filled : (ys : List ℕ) → (room ≡ 0 → ⊥) → length ys ≤ room - 1 → suc (length ys) ≤ room
          filled ys z l = omega arith

  -- ---- and nodes that close are found

  closes_nodes : (xs : List ℕ) (n room x : ℕ) → Closes w h x xs → length xs ≤ n → length xs ≤ room → nodes_after n w room h x ≡ Ok xs
  unfolding nodes_after
  closes_nodes [] zero room x p l m = rw (follows_next w x h p, eq-eqb h h refl)
  closes_nodes [] (suc n) room x p l m = rw (follows_next w x h p, eq-eqb h h refl)
  closes_nodes (y ∷ ys) zero room x p l m = absurd (omega arith)
  closes_nodes (y ∷ ys) (suc n) room x p l m =
      let some : room ≡ 0 → ⊥ = λ z. absurd (omega arith) in
      rw (follows_next w x y p.0, ne_eqb y h p.1.0, ne_eqb room 0 some, closes_nodes ys n (room - 1) y p.1.1 (omega arith) (omega arith))

-- ---- demand 2

module _ (w : World) (h : ℕ) (old : List ℕ) where
  closed_list : (xs : List ℕ) → nodes_of w (length old) h ≡ Ok xs → ClosedList w h xs × (length xs ≤ length old)
  unfolding nodes_of
  closed_list xs e =
      let (x, f, g) = then_ok (aligned h) _ xs e in
      let (t, same) = if_ok (eqb (h % 8) 0) h x LinkUnaligned f in
      let q : Found w 4096 (length old) h h xs = nodes_close w h 4096 (length old) h xs (rw (← same) at g) in
      (record { head = eqb-true (h % 8) 0 t; closes = q.closes; most = q.most }, q.fits)

  written_front : (xs : List ℕ) → length xs ≤ length old → take (length xs) (sets old 0 xs) ≡ xs
  written_front xs l = rw (sets-eq xs old 0 (omega arith)) (take_at xs (drop (0 + length xs) old) (length xs) refl)

  complete_list : (xs : List ℕ) → ClosedList w h xs → length xs ≤ length old → nodes_of w (length old) h ≡ Ok xs
  unfolding nodes_of
  complete_list xs q l = rw (eq-eqb (h % 8) 0 q.head) (closes_nodes w h xs 4096 (length old) h q.closes q.most l)

  pub exact_list : ExactList w h old (nodes_outcome old (nodes_of w (length old) h))
  exact_list = go (nodes_of w (length old) h) refl
    where
      no_answer : (r : Refusal) {A : Type 0} → refusal_number r ≡ 0 → A
      no_answer r e = absurd (omega (arith, ten_or_more r))

      complete : (ns : Nodes) → nodes_of w (length old) h ≡ ns → (xs : List ℕ) → ClosedList w h xs → length xs ≤ length old → nodes_outcome old ns ≡ written old xs
      complete ns e xs q l =
          let same : ns ≡ Ok xs = sym e ∙ complete_list xs q l in
          rw same

      go : (ns : Nodes) → nodes_of w (length old) h ≡ ns → ExactList w h old (nodes_outcome old ns)
      go (Err r) e = record { sound = λ z. no_answer r z; fits = λ z. no_answer r z; different = λ z. no_answer r z; complete = complete (Err r) e }
      go (Ok xs) e =
          let p = closed_list xs e in
          let front : take (length xs) (sets old 0 xs) ≡ xs = written_front xs p.1 in
          record {
            sound = λ z. rw front p.0;
            fits = λ z. p.1;
            different = λ z. rw front (different_nodes w h h xs p.0.closes);
            complete = complete (Ok xs) e;
          }
