-- Reading a number of at most three groups, group by group: what ends earlier, goes on or is refused is none.
use Rattle.std.specs.Prelude.{Option, Some, None, Ok, Err, if◌then◌else◌}
use mathlib.Core.Path.{◌≡◌, refl, ap}
use mathlib.Core.Bool.{Bool, true, false}
use mathlib.Core.List.{List}
use Prim.Native.Nat.{ℕ, ◌+◌, ◌-◌, ◌*◌, ◌^◌, ◌<◌, ◌≤◌}
use native.Mathlib.Omega.{arith}
use Rattle.std.proofs.Common.{Fits, w8}
use Rattle.std.proofs.lemmas.List.{get_or-drop}
use lib.Dec.{leb}
use lib.ListN.{length, get_or, drop}
use borrow.Author.Tests.{le-leb, lt-leb}
use Rattle.base.specs.declared.Fault.{Fault}
use Rattle.base.proofs.Test.{Test, test, below, above}
use Rattle.varint.specs.Reader.{Read, got, refused}
use Rattle.varint.specs.Groups.{dec, decode, number}
use Rattle.varint.specs.Answer.{as_result, short_of}
use Rattle.varint.proofs.Reading.{Reading, starts, at_end, short, last, again}
use Rattle.varint.proofs.Fields.{value_got, refused_bad, field_small, field_large, field_bad}
use Rattle.varint.proofs.Onward.{dec_onward}

module _ (s : List ℕ) (at : ℕ) where
  no_number : (f : Fault) → Err f ≡ as_result (decode s at) → None ≡ short_of at (number s at)
  no_number f e = rw (field_bad s at f (refused_bad (decode s at) (Err f) f e refl))

  short_read : (n next : ℕ) → n < 2 ^ 36 → next ≤ at + 3 → Ok (n, next) ≡ as_result (decode s at) → Some (n, next) ≡ short_of at (number s at)
  short_read n next h l e = rw (field_small s at n next (value_got (decode s at) (Ok (n, next)) n next e refl) h, le-leb next (at + 3) l)

  longer : (n next : ℕ) → at + 3 < next → decode s at ≡ got n next → None ≡ short_of at (number s at)
  longer n next l e = go (test n (2 ^ 36))
    where
      go : Test n (2 ^ 36) → None ≡ short_of at (number s at)
      go (below h) = rw (field_small s at n next e h, lt-leb next (at + 3) l)
      go (above h) = rw (field_large s at n next e h)

  module _ (xs : List ℕ) (ex : xs ≡ drop at s) (bytes : (i : ℕ) → Fits w8 (get_or s i 0)) where
    byte : (i : ℕ) → get_or xs i 0 < 256
    byte i = rw (ex, get_or-drop at s i 0) (omega (arith, bytes (at + i)))

    pub no_group : length xs < 1 → None ≡ short_of at (number s at)
    no_group l = no_number _ (at_end (starts s at) xs ex (omega arith))

    module _ (l₁ : 1 ≤ length xs) (a : ℕ) (ea : a ≡ get_or xs 0 0) where
      pub one_group : a < 128 → Some (a, at + 1) ≡ short_of at (number s at)
      one_group h =
          let plain : 0 + 1 * a ≡ a = omega arith in
          let place : at + 0 + 1 ≡ at + 1 = omega arith in
          short_read a (at + 1) (omega arith) (omega arith) (rw (plain, place) at (last (starts s at) xs ex (omega arith) a ea h (omega arith)))

      module _ (h₁ : 128 ≤ a) where
        one_read : Reading s at (a - 128) 128 1
        one_read =
            let plain : 0 + 1 * (a - 128) ≡ a - 128 = omega arith in
            rw plain at (again (starts s at) xs ex (omega arith) a ea h₁ (omega (arith, byte 0)) (omega arith))

        pub no_second : length xs < 2 → None ≡ short_of at (number s at)
        no_second l = no_number _ (at_end one_read xs ex (omega arith))

        module _ (l₂ : 2 ≤ length xs) (b : ℕ) (eb : b ≡ get_or xs 1 0) where
          pub second_zero : b ≡ 0 → None ≡ short_of at (number s at)
          second_zero z = no_number _ (short one_read xs ex (omega arith) b eb (omega arith) z (omega arith))

          pub two_groups : b < 128 → (b ≡ 0 → ⊥) → Some (a - 128 + 128 * b, at + 2) ≡ short_of at (number s at)
          two_groups h z =
              let place : at + 1 + 1 ≡ at + 2 = omega arith in
              short_read _ (at + 2) (omega (arith, byte 0)) (omega arith) (rw place at (last one_read xs ex (omega arith) b eb h (omega (arith, z))))

          module _ (h₂ : 128 ≤ b) where
            two_read : Reading s at (a - 128 + 128 * (b - 128)) 16384 2
            two_read = again one_read xs ex (omega arith) b eb h₂ (omega (arith, byte 1)) (omega arith)

            pub no_third : length xs < 3 → None ≡ short_of at (number s at)
            no_third l = no_number _ (at_end two_read xs ex (omega arith))

            module _ (l₃ : 3 ≤ length xs) (c : ℕ) (ec : c ≡ get_or xs 2 0) where
              pub third_zero : c ≡ 0 → None ≡ short_of at (number s at)
              third_zero z = no_number _ (short two_read xs ex (omega arith) c ec (omega arith) z (omega arith))

              pub three_groups : c < 128 → (c ≡ 0 → ⊥) → Some (a - 128 + 128 * (b - 128) + 16384 * c, at + 3) ≡ short_of at (number s at)
              three_groups h z =
                  let place : at + 2 + 1 ≡ at + 3 = omega arith in
                  short_read _ (at + 3) (omega (arith, byte 0, byte 1)) (omega arith) (rw place at (last two_read xs ex (omega arith) c ec h (omega (arith, z))))

              -- the groups after the third end behind it
              pub more_groups : 128 ≤ c → None ≡ short_of at (number s at)
              more_groups h = go (dec 3 1 (at + 3) (drop 3 (drop at s))) refl
                where
                  three_read : Reading s at (a - 128 + 128 * (b - 128) + 16384 * (c - 128)) 2097152 3
                  three_read = again two_read xs ex (omega arith) c ec h (omega (arith, byte 2)) (omega arith)

                  go : (d : Read ℕ) → dec 3 1 (at + 3) (drop 3 (drop at s)) ≡ d → None ≡ short_of at (number s at)
                  go (got m next) e = longer _ next (omega (arith, dec_onward 3 1 (at + 3) (drop 3 (drop at s)) m next e)) (rw e at three_read.same)
                  go (refused f) e = rw (field_bad s at _ (rw e at three_read.same))

-- what a caller learns from a number that was read so
pub short_got : (d : Read ℕ) (at : ℕ) (v : Option (ℕ × ℕ)) (n next : ℕ) → v ≡ short_of at d → v ≡ Some (n, next) → d ≡ got n next
short_got (got m j) at v n next e f = go (leb j (at + 3)) e
  where
    go : (b : Bool) → v ≡ (if b then Some (m, j) else None) → got m j ≡ got n next
    go true g =
        let same : (m, j) ≡ (n, next) = cc in
        ap (λ (p : ℕ × ℕ). got p.0 p.1) same
    go false g = cc
short_got (refused r) at v n next e f = cc
