-- The two conditions that a header's word alone decides: its BlockSize and its tag.
use mathlib.Core.Path.{◌≡◌, refl, sym, ap, ◌∙◌}
use mathlib.Core.Bool.{Bool, true, false, and-true, and-false}
use Prim.Native.Nat.{ℕ, ◌-◌, ◌%◌, ◌^◌, ◌≤◌, ◌<◌, min}
use native.Mathlib.Omega.{arith}
use lib.Bits.{bit_and}
use lib.Dec.{ltb, leb, eqb}
use borrow.Author.Tests.{leb-true, lt-ltb, le-ltb, le-leb, lt-leb, eq-eqb, ne_eqb, eqb-true, eqb-false}
use Rattle.std.specs.Int.{bit_at}
use Rattle.std.specs.Int.RustNames.{bit_or}
use Rattle.std.proofs.lemmas.Nat.{and_mask}
use Rattle.std.proofs.lemmas.Nat.Bits.{bit_at_above, bit_at_and, bit_at_or, bit_at-pow_other, same_from_bits}
use Rattle.base.specs.Notation.{bits}
use Rattle.base.proofs.Test.{Test, test, below, above, both_true}
use Rattle.pool.specs.Pool.{tag_fits}
use Rattle.pool.specs.Inner.{may_begin}

-- ---- the tag's three bits in the word

abbrev tag_bits : ℕ
tag_bits = 0x80808000000000

-- they are a number of three ones
other_bit : (i : ℕ) → (i ≡ 39 → ⊥) → (i ≡ 47 → ⊥) → (i ≡ 55 → ⊥) → bit_at tag_bits i ≡ 0
other_bit i a b c =
    let first : bit_at (2 ^ 39) i ≡ 0 = bit_at-pow_other 39 i a in
    let second : bit_at (2 ^ 47) i ≡ 0 = bit_at-pow_other 47 i b in
    let third : bit_at (2 ^ 55) i ≡ 0 = bit_at-pow_other 55 i c in
    let two : bit_at (bit_or (2 ^ 39) (2 ^ 47)) i ≡ 0 = bit_at_or (2 ^ 39) (2 ^ 47) i ∙ omega (arith, first, second) in
    let all : bit_at (bit_or (bit_or (2 ^ 39) (2 ^ 47)) (2 ^ 55)) i ≡ 0 = bit_at_or (bit_or (2 ^ 39) (2 ^ 47)) (2 ^ 55) i ∙ omega (arith, two, third) in
    all

-- with bits 0 to 24 of the word
abbrev field_bits : ℕ
field_bits = 0x80808001FFFFFF

low_bit : (i : ℕ) → (i ≡ 39 → ⊥) → (i ≡ 47 → ⊥) → (i ≡ 55 → ⊥) → bit_at field_bits i ≡ bit_at (2 ^ 25 - 1) i
low_bit i a b c =
    let no : bit_at tag_bits i ≡ 0 = other_bit i a b c in
    let all : bit_at (bit_or tag_bits (2 ^ 25 - 1)) i ≡ bit_at (2 ^ 25 - 1) i = bit_at_or tag_bits (2 ^ 25 - 1) i ∙ omega (arith, no) in
    all

module _ (w : ℕ) where
  abbrev field : ℕ
  field = bit_and w field_bits

  -- a word with none of the three set has its bits 0 to 24 under the mask
  none_set : bit_at w 39 ≡ 0 → bit_at w 47 ≡ 0 → bit_at w 55 ≡ 0 → field ≡ w % 0x2000000
  none_set a b c = same_from_bits field (bit_and w (2 ^ 25 - 1)) (λ i. bit_at_and w field_bits i ∙ go i (eqb i 39) (eqb i 47) (eqb i 55) refl refl refl ∙ sym (bit_at_and w (2 ^ 25 - 1) i)) ∙ and_mask w 25
    where
      go : (i : ℕ) (x y z : Bool) → eqb i 39 ≡ x → eqb i 47 ≡ y → eqb i 55 ≡ z → min (bit_at w i) (bit_at field_bits i) ≡ min (bit_at w i) (bit_at (2 ^ 25 - 1) i)
      go i true y z e f g =
          let at : i ≡ 39 = eqb-true i 39 e in
          let own : bit_at w i ≡ 0 = ap (bit_at w) at ∙ a in
          omega (arith, own)
      go i false true z e f g =
          let at : i ≡ 47 = eqb-true i 47 f in
          let own : bit_at w i ≡ 0 = ap (bit_at w) at ∙ b in
          omega (arith, own)
      go i false false true e f g =
          let at : i ≡ 55 = eqb-true i 55 g in
          let own : bit_at w i ≡ 0 = ap (bit_at w) at ∙ c in
          omega (arith, own)
      go i false false false e f g =
          let same : bit_at field_bits i ≡ bit_at (2 ^ 25 - 1) i = low_bit i (eqb-false i 39 e) (eqb-false i 47 f) (eqb-false i 55 g) in
          rw same

  -- a bit of the tag under the mask is more than all of these
  high : (i : ℕ) → 25 ≤ i → bit_at field_bits i ≡ 1 → 1 ≤ bit_at w i → 0x2000000 ≤ field
  high i l one h = go (test field 0x2000000)
    where
      go : Test field 0x2000000 → 0x2000000 ≤ field
      go (above m) = m
      go (below m) = absurd (omega (arith, one, bit_at_and w field_bits i, bit_at_above field 25 i m l))

  bit_7 : bits (bits w 32 63) 7 7 ≡ bit_at w 39
  bit_7 = omega arith

  bit_15 : bits (bits w 32 63) 15 15 ≡ bit_at w 47
  bit_15 = omega arith

  bit_23 : bits (bits w 32 63) 23 23 ≡ bit_at w 55
  bit_23 = omega arith

  by_size : bit_at w 39 ≡ 0 → bit_at w 47 ≡ 0 → bit_at w 55 ≡ 0 → leb 1 (bits w 16 24) ≡ may_begin w
  by_size a b c = sym (rw (
    ne_eqb (bits (bits w 32 63) 7 7) 1 (λ z. omega (arith, z, bit_7)),
    ne_eqb (bits (bits w 32 63) 15 15) 1 (λ z. omega (arith, z, bit_15)),
    ne_eqb (bits (bits w 32 63) 23 23) 1 (λ z. omega (arith, z, bit_23)),
    and-true,
  ))

  not_7 : 1 ≤ bit_at w 39 → may_begin w ≡ false
  not_7 a = rw (eq-eqb (bits (bits w 32 63) 7 7) 1 (omega (arith, bit_7))) (simp and-false)

  not_15 : 1 ≤ bit_at w 47 → may_begin w ≡ false
  not_15 a = rw (eq-eqb (bits (bits w 32 63) 15 15) 1 (omega (arith, bit_15))) (simp and-false)

  not_23 : 1 ≤ bit_at w 55 → may_begin w ≡ false
  not_23 a = rw (eq-eqb (bits (bits w 32 63) 23 23) 1 (omega (arith, bit_23))) (simp and-false)

  pub in_field : 0x10000 ≤ field → ltb field 0x2000000 ≡ may_begin w
  in_field h = go (test (bit_at w 39) 1) (test (bit_at w 47) 1) (test (bit_at w 55) 1)
    where
      go : Test (bit_at w 39) 1 → Test (bit_at w 47) 1 → Test (bit_at w 55) 1 → ltb field 0x2000000 ≡ may_begin w
      go (above a) b c = le-ltb field 0x2000000 (high 39 (omega arith) refl a) ∙ sym (not_7 a)
      go (below a) (above b) c = le-ltb field 0x2000000 (high 47 (omega arith) refl b) ∙ sym (not_15 b)
      go (below a) (below b) (above c) = le-ltb field 0x2000000 (high 55 (omega arith) refl c) ∙ sym (not_23 c)
      go (below a) (below b) (below c) =
          let low : field ≡ w % 0x2000000 = none_set (omega arith) (omega arith) (omega arith) in
          lt-ltb field 0x2000000 (omega (arith, low)) ∙ sym (le-leb 1 (bits w 16 24) (omega (arith, low))) ∙ by_size (omega arith) (omega arith) (omega arith)

  pub below_field : field < 0x10000 → leb 0x10000 field ≡ may_begin w
  below_field h = lt-leb 0x10000 field h ∙ sym (go (test (bit_at w 39) 1) (test (bit_at w 47) 1) (test (bit_at w 55) 1))
    where
      go : Test (bit_at w 39) 1 → Test (bit_at w 47) 1 → Test (bit_at w 55) 1 → may_begin w ≡ false
      go (above a) b c = not_7 a
      go (below a) (above b) c = not_15 b
      go (below a) (below b) (above c) = not_23 c
      go (below a) (below b) (below c) =
          let low : field ≡ w % 0x2000000 = none_set (omega arith) (omega arith) (omega arith) in
          sym (by_size (omega arith) (omega arith) (omega arith)) ∙ lt-leb 1 (bits w 16 24) (omega (arith, low))

  pub sized : may_begin w ≡ true → 1 ≤ bits w 16 24
  sized h = leb-true 1 (bits w 16 24) (both_true (leb 1 (bits w 16 24)) (tag_fits (bits w 32 63)) h).0

  pub tagged : may_begin w ≡ true → tag_fits (bits w 32 63) ≡ true
  tagged h = (both_true (leb 1 (bits w 16 24)) (tag_fits (bits w 32 63)) h).1
