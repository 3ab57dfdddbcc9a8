-- Where a reader of fields blames a number: 11 and 18 stand at a number's first byte, that number is refused so there, and every number before it was read.
use Rattle.std.specs.Prelude.{if◌then◌else◌}
use mathlib.Core.Path.{◌≡◌, refl, sym, ap, ◌∙◌}
use mathlib.Core.Logic.{◌⊎◌, inl, inr}
use mathlib.Core.Bool.{Bool, true, false}
use mathlib.Core.List.{List, [], ◌∷◌}
use Prim.Native.Nat.{ℕ, ◌^◌, ◌<◌}
use native.Mathlib.Omega.{arith}
use lib.Dec.{ltb, eqb}
use lib.ListN.{length, drop, length-drop}
use Rattle.base.specs.Refusal.{refusal_number, unplaced}
use Rattle.base.specs.declared.Fault.{Fault}
use Rattle.base.specs.declared.Refusal.{Refusal}
use Rattle.base.specs.declared.Refusal.TheVariants.{Truncated, OutOfLimits}
use Rattle.varint.specs.Reader.{Read, got, refused, Reader, after, ◌>>◌, return, need, ◌>>=◌}
use Rattle.varint.specs.Groups.{dec, begun_at, decode, number}
use Rattle.varint.specs.Edition.{edition, edition_fields}

-- the numbers that show a position
abbrev pub Blamed : Refusal → Type 0
Blamed r = (refusal_number r ≡ 11) ⊎ (refusal_number r ≡ 18)

-- numbers one after another, each of which is read, from one place to another
pub data NumbersTo (s : List ℕ) : ℕ → ℕ → Type 0 where
  here : (at : ℕ) → NumbersTo s at at
  next : (at n j to : ℕ) → decode s at ≡ got n j → NumbersTo s j to → NumbersTo s at to

numbers_on : (s : List ℕ) {a b c : ℕ} → NumbersTo s a b → NumbersTo s b c → NumbersTo s a c
numbers_on s (here a) q = q
numbers_on s (next a n j b e p) q = next a n j _ e (numbers_on s p q)

-- the number at fault: it begins within the bytes, is refused so there, and all before it were read
pub record AtFault (s : List ℕ) (at : ℕ) (f : Fault) : Type 0 where
  pub inside : f.position < length s
  pub there : decode s f.position ≡ refused f
  pub before : NumbersTo s at f.position

-- what a reader from a place found: by numbers that were read, or a fault whose number, if one is blamed, stands there
abbrev pub Placed : {A : Type 0} → List ℕ → ℕ → Read A → Type 0
Placed s at (got x end) = NumbersTo s at end
Placed s at (refused f) = Blamed f.refusal → AtFault s at f

placed_on : {A : Type 0} (s : List ℕ) (at end : ℕ) → NumbersTo s at end → (d : Read A) → Placed s end d → Placed s at d
placed_on s at end p (got x j) q = numbers_on s p q
placed_on s at end p (refused f) q = λ h. record { inside = (q h).inside; there = (q h).there; before = numbers_on s p (q h).before }

pub then_placed : {A B : Type 0} (s : List ℕ) (at : ℕ) (k : A → Reader B) (d : Read A) → Placed s at d
    → ((x : A) (end : ℕ) → Placed s end (k x s end)) → Placed s at (after s k d)
then_placed s at k (got x end) p q = placed_on s at end p (k x s end) (q x end)
then_placed s at k (refused f) p q = p

-- a test that refuses with another number
pub need_placed : {B : Type 0} (s : List ℕ) (at : ℕ) (k : Unit {0} → Reader B) (b : Bool) (r : Refusal)
    → (Blamed r → ⊥) → ((x : Unit {0}) (end : ℕ) → Placed s end (k x s end)) → Placed s at (after s k (need b r s at))
need_placed s at k true r h q = q tt at
need_placed s at k false r h q = λ g. absurd (h g)

pub not_blamed : (r : Refusal) → (refusal_number r ≡ 11 → ⊥) → (refusal_number r ≡ 18 → ⊥) → Blamed r → ⊥
not_blamed r a b (inl e) = a e
not_blamed r a b (inr e) = b e

-- past the end of the bytes a number is cut off, not malformed
some_bytes : (s : List ℕ) (at : ℕ) (f : Fault) → decode s at ≡ refused f → Blamed f.refusal → at < length s
unfolding decode
some_bytes s at f e h = go (drop at s) refl
  where
    go : (xs : List ℕ) → drop at s ≡ xs → at < length s
    go (x ∷ xs) d = omega (arith, ap length d, length-drop at s)
    go [] d =
        let cut : refused (record { refusal = Truncated; position = at }) ≡ refused f = (rw d refl) ∙ e in
        let same : Truncated ≡ f.refusal = cc in
        absurd (not_blamed Truncated (λ z. omega (arith, z)) (λ z. omega (arith, z)) (rw (← same) at h))

begun_place : (s : List ℕ) (at : ℕ) (f : Fault) → decode s at ≡ refused f → f.position ≡ at
unfolding decode
begun_place s at f e = go (dec 6 0 at (drop at s)) e
  where
    go : (d : Read ℕ) → begun_at at d ≡ refused f → f.position ≡ at
    go (got n j) g = absurd (let z : ◌≡◌ {A = ℕ} 0 1 = cc in omega arith)
    go (refused q) g =
        let same : record { refusal = q.refusal; position = at } ≡ f = cc in
        sym (ap (λ (x : Fault). x.position) same)

pub number_placed : (s : List ℕ) (at : ℕ) → Placed s at (number s at)
unfolding number
number_placed s at = go (decode s at) refl
  where
    out : Blamed OutOfLimits → ⊥
    out = not_blamed OutOfLimits (λ e. omega (arith, e)) (λ e. omega (arith, e))

    read : (n j : ℕ) (b : Bool) → decode s at ≡ got n j → Placed s at (after s (λ (x : Unit {0}). λ s at. got n at) (if b then got tt j else refused (unplaced OutOfLimits)))
    read n j true e = next at n j j e (here j)
    read n j false e = λ h. absurd (out h)

    go : (d : Read ℕ) → decode s at ≡ d → Placed s at (number s at)
    go (got n j) e = rw e (read n j (ltb n (2 ^ 36)) e)
    go (refused f) e = rw e λ h.
        let same : f.position ≡ at = begun_place s at f e in
        record { inside = rw same (some_bytes s at f e h); there = ap (decode s) same ∙ e; before = rw same (here at) }

pub edition_placed : (s : List ℕ) (at : ℕ) → Placed s at (edition s at)
unfolding edition
edition_placed s at =
    then_placed s at (λ n. ◌>>◌ (need (eqb n 1) OutOfLimits) (return n)) (number s at) (number_placed s at) λ n j.
    need_placed s j (λ x. return n) (eqb n 1) OutOfLimits (not_blamed OutOfLimits (λ e. omega (arith, e)) (λ e. omega (arith, e))) (λ x end. here end)

pub fields_placed : (s : List ℕ) (at : ℕ) → Placed s at (edition_fields s at)
unfolding edition_fields
fields_placed s at =
    then_placed s at (λ n. ◌>>=◌ number (λ first. ◌>>=◌ number (λ second. return record { first = first; second = second }))) (edition s at) (edition_placed s at) λ n a.
    then_placed s a (λ x. ◌>>=◌ number (λ second. return record { first = x; second = second })) (number s a) (number_placed s a) λ x b.
    then_placed s b (λ y. return record { first = x; second = y }) (number s b) (number_placed s b) λ y c. here c
