-- The two numbers of a paging mode, and reading them from a sheet of edition 2, test by test.
use mathlib.Core.Path.{◌≡◌, refl, sym}
use mathlib.Core.List.{List}
use mathlib.Core.Bool.{true, ◌&&◌}
use Prim.Native.Nat.{ℕ, zero, suc, ◌≤◌}
use native.Mathlib.Omega.{arith}
use lib.Dec.{leb, eqb}
use borrow.Author.Tests.{le-leb, leb-true, eqb-true, ne_eqb}
use Rattle.base.specs.Notation.{within}
use Rattle.base.specs.declared.Refusal.TheVariants.{OutOfLimits}
use Rattle.base.proofs.Test.{both_true}
use Rattle.varint.specs.Reader.{got, ◌>>=◌, ◌>>◌, return, need}
use Rattle.varint.specs.Groups.{number}
use Rattle.varint.proofs.Reader.{came, held, returned}
use Rattle.entry.specs.declared.PagingMode.{PagingMode}
use Rattle.entry.specs.declared.PagingMode.TheVariants.{FourLevel, Plain, Pae}
use Rattle.sheet.specs.Sheet.{mode_number, place_of, is_place, paging_mode, mode_fields}
use Rattle.sheet.specs.Inner.{PlaceInPage}

-- ---- the numbers

-- a mode has the two numbers that it was made of
pub record Numbered (n k : ℕ) (m : PagingMode) : Type 0 where
  pub mode : mode_number m ≡ n
  pub place : place_of m ≡ k

no_place_else : (place : ℕ) → leb place 127 && eqb place 0 ≡ true → 0 ≡ place
no_place_else place p = sym (eqb-true place 0 (both_true (leb place 127) (eqb place 0) p).1)

pub numbered : (n place : ℕ) → n ≤ 2 → is_place n place ≡ true → Numbered n place (paging_mode n place)
numbered zero place h p = record { mode = refl; place = no_place_else place p }
numbered (suc zero) place h p = record { mode = refl; place = no_place_else place p }
numbered (suc (suc zero)) place h p = record { mode = refl; place = refl }
numbered (suc (suc (suc n))) place h p = absurd (omega arith)

-- and is made of them again
pub mode_again : (m : PagingMode) → paging_mode (mode_number m) (place_of m) ≡ m
mode_again FourLevel = refl
mode_again Plain = refl
mode_again (Pae place) = refl

pub mode_most : (m : PagingMode) → mode_number m ≤ 2
mode_most FourLevel = omega arith
mode_most Plain = omega arith
mode_most (Pae place) = omega arith

pub place_again : (m : PagingMode) → PlaceInPage m → is_place (mode_number m) (place_of m) ≡ true
place_again FourLevel h = refl
place_again Plain h = refl
place_again (Pae place) h = rw (le-leb place 127 h)

pub place_most : (m : PagingMode) → PlaceInPage m → place_of m ≤ 127
place_most FourLevel h = omega arith
place_most Plain h = omega arith
place_most (Pae place) h = h

pub in_page_lem : (n place : ℕ) → is_place n place ≡ true → PlaceInPage (paging_mode n place)
in_page_lem zero place p = tt
in_page_lem (suc zero) place p = tt
in_page_lem (suc (suc n)) place p = rw (ne_eqb (suc (suc n)) 0 (λ z. omega (arith, z)), ne_eqb (suc (suc n)) 1 (λ z. omega (arith, z))) (leb-true place 127 (both_true (leb place 127) _ p).0)

-- ---- reading them

pub mode_read_lem : (s : List ℕ) (at n a : ℕ) → number s at ≡ got n a → 1 ≤ n → n ≤ 2 → (place next : ℕ) → number s a ≡ got place next → is_place n place ≡ true → mode_fields s at ≡ got (paging_mode n place) next
unfolding mode_fields
mode_read_lem s at n a e₁ h₁ h₂ place next e₂ h = rw (e₁, le-leb 1 n h₁, le-leb n 2 h₂, e₂, h)

-- ---- what was read

-- edition 2's mode and place, where they were read
pub record ModeParts (s : List ℕ) (at : ℕ) (m : PagingMode) (next : ℕ) : Type 0 where
  pub place_at : ℕ
  pub mode_read_lem : number s at ≡ got (mode_number m) place_at
  pub place_read : number s place_at ≡ got (place_of m) next
  pub some : 1 ≤ mode_number m
  pub place : PlaceInPage m

pub mode_parts : (s : List ℕ) (at : ℕ) (m : PagingMode) (next : ℕ) → mode_fields s at ≡ got m next → ModeParts s at m next
unfolding mode_fields
mode_parts s at m next e =
    let c₁ = came s (λ n. ◌>>◌ (need (within 1 2 n) OutOfLimits) (◌>>=◌ number (λ place. ◌>>◌ (need (is_place n place) OutOfLimits) (return (paging_mode n place))))) (number s at) m next e in
    let n = c₁.value in
    let t₁ = held s (λ _. ◌>>=◌ number (λ place. ◌>>◌ (need (is_place n place) OutOfLimits) (return (paging_mode n place)))) (within 1 2 n) OutOfLimits c₁.at m next c₁.rest in
    let c₂ = came s (λ place. ◌>>◌ (need (is_place n place) OutOfLimits) (return (paging_mode n place))) (number s c₁.at) m next t₁.1 in
    let t₂ = held s (λ _. return (paging_mode n c₂.value)) (is_place n c₂.value) OutOfLimits c₂.at m next c₂.rest in
    let same = returned (paging_mode n c₂.value) m c₂.at next t₂.1 in
    let limits = both_true (leb 1 n) (leb n 2) t₁.0 in
    let own = numbered n c₂.value (leb-true n 2 limits.1) t₂.0 in
    let parts : ModeParts s at (paging_mode n c₂.value) c₂.at = record {
      place_at = c₁.at;
      mode_read_lem = rw own.mode c₁.field;
      place_read = rw own.place c₂.field;
      some = rw own.mode (leb-true 1 n limits.0);
      place = in_page_lem n c₂.value t₂.0;
    } in
    rw (same.0, same.1) at parts
