-- Numbers that stand one after another among bytes: what stands at a place is read there, and what was read stands there.
use mathlib.Core.Path.{◌≡◌, refl, sym, ap, ◌∙◌}
use mathlib.Core.List.{List, ◌++◌}
use Prim.Native.Nat.{ℕ, ◌+◌, ◌^◌, ◌<◌, ◌≤◌}
use native.Mathlib.Omega.{arith}
use lib.Dec.{ltb}
use lib.ListN.{length, take, drop, length-append, length-drop, take-append-drop}
use lib.Seq.{drop_at, drop-drop, length-take-le}
use Rattle.base.specs.declared.Refusal.TheVariants.{OutOfLimits}
use Rattle.varint.specs.Reader.{got, ◌>>◌, return, need}
use Rattle.varint.specs.Groups.{encode, decode, number}
use Rattle.varint.proofs.Reader.{came, held, returned}
use Rattle.varint.proofs.Forms.{Bytes, Stands, round_trip, one_form}
use Rattle.varint.proofs.Fields.{field_small}
use Rattle.varint.proofs.Writing.{encode_length}

number_reads : (before rest : List ℕ) (n : ℕ) → n < 2 ^ 36 → number (before ++ (encode n ++ rest)) (length before) ≡ got n (length before + length (encode n))
number_reads before rest n h = field_small (before ++ (encode n ++ rest)) (length before) n (length before + length (encode n)) (round_trip before rest n (omega arith)) h

pub number_at : (s : List ℕ) (at n : ℕ) (rest : List ℕ) → n < 2 ^ 36 → drop at s ≡ encode n ++ rest → number s at ≡ got n (at + length (encode n))
number_at s at n rest h e =
    let inside : at ≤ length s = omega (arith, length-drop at s, ap length e, length-append (encode n) rest, encode_length n) in
    let long : length (take at s) ≡ at = length-take-le at s inside in
    let parts : take at s ++ (encode n ++ rest) ≡ s = ap (λ (l : List ℕ). take at s ++ l) (sym e) ∙ take-append-drop at s in
    rw (parts, long) at (number_reads (take at s) rest n h)

pub drop_after : (s : List ℕ) (at : ℕ) (xs rest : List ℕ) → drop at s ≡ xs ++ rest → drop (at + length xs) s ≡ rest
drop_after s at xs rest e = sym (drop-drop (length xs) at s) ∙ ap (drop (length xs)) e ∙ drop_at xs rest (length xs) refl

-- a field that was read, of bytes, stands there in its one form
pub field_stands : (s : List ℕ) (at n next : ℕ) → Bytes s → number s at ≡ got n next → Stands s at n next
unfolding number
field_stands s at n next b e =
    let c = came s (λ x. ◌>>◌ (need (ltb x (2 ^ 36)) OutOfLimits) (return x)) (decode s at) n next e in
    let t = held s (λ _. return c.value) (ltb c.value (2 ^ 36)) OutOfLimits c.at n next c.rest in
    let same = returned c.value n c.at next t.1 in
    one_form s at n next b (rw (same.0, same.1) at c.field)
