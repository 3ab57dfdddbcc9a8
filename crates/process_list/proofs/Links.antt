-- The node after a node, by its forward word and the back word there.
use Rattle.std.specs.Prelude.{if◌then◌else◌, Result, Ok, Err}
use mathlib.Core.Path.{◌≡◌, refl}
use mathlib.Core.Bool.{Bool, true, false}
use Prim.Native.Nat.{ℕ, ◌+◌, ◌%◌, ◌^◌, ◌≤◌}
use lib.Dec.{eqb}
use borrow.Author.Tests.{eqb-true, eq-eqb}
use Rattle.base.specs.declared.Refusal.{Refusal}
use Rattle.base.specs.declared.Refusal.TheVariants.{NotCanonical, LinkUnaligned, BackLinkDiffers}
use Rattle.entry.specs.declared.PagingMode.TheVariants.{FourLevel}
use Rattle.entry.proofs.Addresses.{past_top}
use Rattle.walk.specs.Walk.{World, resolve_of}
use Rattle.walk.specs.Rows.{four_levels, rows_world, resolved_of}
use Rattle.walk.specs.declared.Resolved.{Resolved}
use Rattle.walk.proofs.Cycle.{body}
use Rattle.resolution.specs.Open.{open_world}
use Rattle.resolution.specs.declared.OpenCase.{OpenCase}
use Rattle.process_list.specs.List.{link_at, link_of, and_then, aligned, next_node}
use Rattle.process_list.specs.Exact.{Follows}

-- where four levels lead in a case that has them, its word is read
pub link_placed : (c : OpenCase) → c.space.mode ≡ FourLevel → (a : ℕ) (r : Resolved) → r ≡ resolved_of (resolve_of 3 (rows_world c.rows.now (four_levels c.space.directory) c.image.now c.pagefile.now) a)
    → link_at c.image.now c.pagefile.now r.place ≡ link_of (open_world c) a
unfolding link_of
link_placed c e a r f = rw (e, f)

-- past the top nothing can be read
pub link_past_top : (w : World) (a : ℕ) → 2 ^ 64 ≤ a → Err NotCanonical ≡ link_of w a
unfolding link_of
link_past_top w a h = rw (body 3 w a, past_top w.space.mode a h)

-- ---- what is Ok step by step

pub then_ok : {A B : Type 0} (r : Result A Refusal) (f : A → Result B Refusal) (y : B) → and_then r f ≡ Ok y → (x : A) × (r ≡ Ok x) × (f x ≡ Ok y)
then_ok (Ok x) f y e = (x, refl, e)
then_ok (Err r) f y e = cc

pub if_ok : {A : Type 0} (t : Bool) (x y : A) (r : Refusal) → (if t then Ok x else Err r) ≡ Ok y → (t ≡ true) × (x ≡ y)
if_ok true x y r e = (refl, cc)
if_ok false x y r e = cc

-- ---- a node that follows is the next one, and the other way

pub follows_next : (w : World) (x y : ℕ) → Follows w x y → next_node w x ≡ Ok y
unfolding next_node
follows_next w x y q = rw (q.forward, eq-eqb (y % 8) 0 q.aligned, q.back, eq-eqb x x refl)

pub next_follows : (w : World) (x y : ℕ) → next_node w x ≡ Ok y → Follows w x y
unfolding next_node
next_follows w x y e =
    let (next, f, g) = then_ok (and_then (link_of w x) aligned) _ y e in
    let (word, forward, h) = then_ok (link_of w x) aligned next f in
    let (back, behind, k) = then_ok (link_of w (next + 8)) _ y g in
    let at = if_ok (eqb (word % 8) 0) word next LinkUnaligned h in
    let same = if_ok (eqb back x) next y BackLinkDiffers k in
    ends word next y back forward behind at.1 same.1 (eqb-true (word % 8) 0 at.0) (eqb-true back x same.0)
  where
    ends : (word next y back : ℕ) → link_of w x ≡ Ok word → link_of w (next + 8) ≡ Ok back → word ≡ next → next ≡ y → word % 8 ≡ 0 → back ≡ x → Follows w x y
    ends word next y back f g e k a b = record { forward = rw (e, k) at f; aligned = rw (e, k) at a; back = rw (k, b) at g }
