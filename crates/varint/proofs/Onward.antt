-- A number takes a byte at least.
use Rattle.std.specs.Prelude.{if◌then◌else◌}
use mathlib.Core.Path.{◌≡◌, refl}
use mathlib.Core.Bool.{Bool, true, false}
use mathlib.Core.List.{List, [], ◌∷◌}
use Prim.Native.Nat.{ℕ, zero, suc, ◌-◌, ◌<◌}
use native.Mathlib.Omega.{arith}
use lib.Dec.{ltb}
use Rattle.base.specs.Refusal.{unplaced}
use Rattle.base.specs.declared.Refusal.TheVariants.{NumberNotShortest}
use Rattle.varint.specs.Reader.{Read, got, refused}
use Rattle.varint.specs.Groups.{under, dec}

-- what is left of the groups ends after its place
abbrev Deeper : ℕ → ℕ → List ℕ → Type 0
Deeper g at xs = (m j : ℕ) → dec g 1 at xs ≡ got m j → at < j

pub dec_onward : (g least at : ℕ) (xs : List ℕ) (n next : ℕ) → dec g least at xs ≡ got n next → at < next
dec_onward zero least at xs n next e = absurd (let z : ◌≡◌ {A = ℕ} 0 1 = cc in omega arith)
dec_onward (suc g) least at [] n next e = absurd (let z : ◌≡◌ {A = ℕ} 0 1 = cc in omega arith)
dec_onward (suc g) least at (x ∷ xs) n next e = go (ltb x 128) (ltb x least) (λ m j f. dec_onward g 1 (suc at) xs m j f) e
  where
    more : Deeper g (suc at) xs → (d : Read ℕ) → dec g 1 (suc at) xs ≡ d → under (x - 128) d ≡ got n next → at < next
    more ih (got m j) f k =
        let same : j ≡ next = cc in
        omega (arith, ih m j f)
    more ih (refused r) f k = absurd (let z : ◌≡◌ {A = ℕ} 0 1 = cc in omega arith)

    go : (a b : Bool) → Deeper g (suc at) xs → (if a then (if b then refused (unplaced NumberNotShortest) else got x (suc at)) else under (x - 128) (dec g 1 (suc at) xs)) ≡ got n next → at < next
    go true true ih k = absurd (let z : ◌≡◌ {A = ℕ} 0 1 = cc in omega arith)
    go true false ih k =
        let same : suc at ≡ next = cc in
        omega arith
    go false b ih k = more ih (dec g 1 (suc at) xs) refl k
