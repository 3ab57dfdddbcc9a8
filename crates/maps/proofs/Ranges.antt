-- Allowed ranges: what holds of every address of one.
use mathlib.Core.Path.{◌≡◌, refl}
use mathlib.Core.Bool.{Bool, true, false, ◌&&◌, ◌||◌}
use Prim.Native.Nat.{ℕ, ◌+◌, ◌-◌, ◌*◌, ◌/◌, ◌%◌, ◌^◌, ◌≤◌, ◌<◌}
use native.Mathlib.Omega.{arith}
use lib.Dec.{eqb, leb}
use borrow.Author.Tests.{lt-ltb, le-ltb, le-leb, leb-true, eqb-true}
use Rattle.base.specs.Notation.{bits, within}
use Rattle.base.proofs.Test.{both_true}
use Rattle.entry.specs.Addresses.{reachable, reachable_in}
use Rattle.entry.specs.declared.PagingMode.{PagingMode}
use Rattle.entry.specs.declared.PagingMode.TheVariants.{FourLevel, Plain, Pae}
use Rattle.walk.specs.Rows.{placed_mode}
use Rattle.entry.specs.Pages.{virtual_page_of}
use Rattle.map_format.specs.Reading.{in_half}
use Rattle.maps.specs.MapOf.{allowed_wide, allowed_narrow, allowed}

-- ---- what an allowed range keeps to

pub data Half (start count : ℕ) : Type 0 where
  low : start + 4096 * count ≤ 2 ^ 47 → Half start count
  high : 2 ^ 64 - 2 ^ 47 ≤ start → start + 4096 * count ≤ 2 ^ 64 → Half start count

pub record Allowed (start count : ℕ) : Type 0 where
  pub aligned : start % 4096 ≡ 0
  pub some : 1 ≤ count
  pub most : count ≤ 2 ^ 20
  pub half : Half start count

half_of : (start count : ℕ) (a b c : Bool)
    → leb (start + 4096 * count) (2 ^ 47) ≡ a → leb (2 ^ 64 - 2 ^ 47) start ≡ b → leb (start + 4096 * count) (2 ^ 64) ≡ c → (a || (b && c)) ≡ true → Half start count
half_of start count true b c ea eb ec e = low (leb-true (start + 4096 * count) (2 ^ 47) ea)
half_of start count false true true ea eb ec e = high (leb-true (2 ^ 64 - 2 ^ 47) start eb) (leb-true (start + 4096 * count) (2 ^ 64) ec)
half_of start count false true false ea eb ec e = absurd (let z : ◌≡◌ {A = ℕ} 0 1 = cc in omega arith)
half_of start count false false c ea eb ec e = absurd (let z : ◌≡◌ {A = ℕ} 0 1 = cc in omega arith)

wide_range : (start count : ℕ) → allowed_wide start count ≡ true → Allowed start count
unfolding allowed_wide
wide_range start count e =
    let t₁ = both_true (eqb (start % 4096) 0) _ e in
    let t₂ = both_true (within 1 (2 ^ 20) count) _ t₁.1 in
    let t₃ = both_true (leb 1 count) (leb count (2 ^ 20)) t₂.0 in
    record {
      aligned = eqb-true (start % 4096) 0 t₁.0;
      some = leb-true 1 count t₃.0;
      most = leb-true count (2 ^ 20) t₃.1;
      half = half_of start count (leb (start + 4096 * count) (2 ^ 47)) (leb (2 ^ 64 - 2 ^ 47) start) (leb (start + 4096 * count) (2 ^ 64)) refl refl refl t₂.1;
    }

-- whole pages below 2^32 lie in the lower half, and are at most 2^20
narrow_range : (start count : ℕ) → allowed_narrow start count ≡ true → Allowed start count × (start + 4096 * count ≤ 2 ^ 32)
unfolding allowed_narrow
narrow_range start count e =
    let t₁ = both_true (eqb (start % 4096) 0) _ e in
    let t₂ = both_true (leb 1 count) (leb (start + 4096 * count) (2 ^ 32)) t₁.1 in
    let end : start + 4096 * count ≤ 2 ^ 32 = leb-true (start + 4096 * count) (2 ^ 32) t₂.1 in
    (record { aligned = eqb-true (start % 4096) 0 t₁.0; some = leb-true 1 count t₂.0; most = omega arith; half = low (omega arith) }, end)

pub allowed_range : (m : PagingMode) (start count : ℕ) → allowed m start count ≡ true → Allowed start count
unfolding allowed
allowed_range FourLevel start count e = wide_range start count e
allowed_range Plain start count e = (narrow_range start count e).0
allowed_range (Pae place) start count e = (narrow_range start count e).0

-- a mode as the code takes it allows the same
pub placed_allowed : (m : PagingMode) (start count : ℕ) → allowed (placed_mode m) start count ≡ allowed m start count
unfolding allowed
placed_allowed FourLevel start count = refl
placed_allowed Plain start count = refl
placed_allowed (Pae place) start count = refl

pub range_top : {start count : ℕ} → Allowed start count → start + 4096 * count ≤ 2 ^ 64
range_top {start} {count} q = go q.half
  where
    go : Half start count → start + 4096 * count ≤ 2 ^ 64
    go (low h) = omega arith
    go (high g h) = h

low_reach : (a : ℕ) → a < 2 ^ 47 → reachable a ≡ true
unfolding reachable
low_reach a h =
    let z : bits a 47 63 ≡ 0 = omega arith in
    rw (lt-ltb a (2 ^ 64) (omega arith), z)

high_reach : (a : ℕ) → 2 ^ 64 - 2 ^ 47 ≤ a → a < 2 ^ 64 → reachable a ≡ true
unfolding reachable
high_reach a g h =
    let z : bits a 47 63 ≡ 2 ^ 17 - 1 = omega arith in
    rw (lt-ltb a (2 ^ 64) h, z)

low_page : (a : ℕ) → a < 2 ^ 47 → bits a 12 47 ≡ a / 4096
low_page a h =
    let top : a / 4096 < 2 ^ 36 = omega arith in
    omega arith

-- the page number of an address of the upper half
high_page : (a : ℕ) → 2 ^ 64 - 2 ^ 47 ≤ a → a < 2 ^ 64 → bits a 12 47 + (2 ^ 52 - 2 ^ 36) ≡ a / 4096
high_page a g h =
    let low : 2 ^ 52 - 2 ^ 35 ≤ a / 4096 = omega arith in
    let top : a / 4096 < 2 ^ 52 = omega arith in
    let turns : a / 4096 / 2 ^ 36 ≡ 2 ^ 16 - 1 = omega arith in
    omega arith

module _ {start count : ℕ} (q : Allowed start count) where
  -- every address of the range is canonical, and its page lies at its distance from the start
  pub record InRange (a : ℕ) : Type 0 where
    pub reaches : reachable a ≡ true
    pub not_below : bits start 12 47 ≤ bits a 12 47
    pub not_above : bits a 12 47 < bits start 12 47 + count
    pub page : bits a 12 47 - bits start 12 47 ≡ (a - start) / 4096

  pub in_range_lem : (a : ℕ) → start ≤ a → a < start + 4096 * count → InRange a
  in_range_lem a l u = go q.half
    where
      go : Half start count → InRange a
      go (low h) =
          let ps : bits start 12 47 ≡ start / 4096 = low_page start (omega (arith, q.some)) in
          let pa : bits a 12 47 ≡ a / 4096 = low_page a (omega arith) in
          let apart : (a - start) / 4096 ≡ a / 4096 - start / 4096 = omega (arith, q.aligned) in
          let order : start / 4096 ≤ a / 4096 = omega arith in
          let last : a / 4096 < start / 4096 + count = omega (arith, q.aligned) in
          record { reaches = low_reach a (omega arith); not_below = omega (arith, ps, pa, order); not_above = omega (arith, ps, pa, last); page = omega (arith, ps, pa, apart, order) }
      go (high g h) =
          let ps : bits start 12 47 + (2 ^ 52 - 2 ^ 36) ≡ start / 4096 = high_page start g (omega (arith, q.some)) in
          let pa : bits a 12 47 + (2 ^ 52 - 2 ^ 36) ≡ a / 4096 = high_page a (omega arith) (omega arith) in
          let apart : (a - start) / 4096 ≡ a / 4096 - start / 4096 = omega (arith, q.aligned) in
          let order : start / 4096 ≤ a / 4096 = omega arith in
          let last : a / 4096 < start / 4096 + count = omega (arith, q.aligned) in
          record { reaches = high_reach a (omega arith) (omega arith); not_below = omega (arith, ps, pa, order); not_above = omega (arith, ps, pa, last); page = omega (arith, ps, pa, apart, order) }

  pub start_in_half : in_half (virtual_page_of start) count ≡ true
  start_in_half = go q.half
    where
      go : Half start count → in_half (virtual_page_of start) count ≡ true
      go (low h) = rw (
        le-leb 1 count q.some,
        le-leb count (2 ^ 20) q.most,
        lt-ltb (bits start 12 47) (2 ^ 35) (omega (arith, q.some)),
        le-leb (bits start 12 47 + count) (2 ^ 35) (omega (arith, q.aligned)),
      )
      go (high g h) = rw (
        le-leb 1 count q.some,
        le-leb count (2 ^ 20) q.most,
        le-ltb (bits start 12 47) (2 ^ 35) (omega (arith, q.some)),
        le-leb (bits start 12 47 + count) (2 ^ 36) (omega (arith, q.aligned)),
      )

-- every address of an allowed range is one of the address space
pub range_reached : (m : PagingMode) (start count : ℕ) → allowed m start count ≡ true → (a : ℕ) → start ≤ a → a < start + 4096 * count → reachable_in m a ≡ true
unfolding allowed reachable_in
range_reached FourLevel start count e a l u = (in_range_lem (wide_range start count e) a l u).reaches
range_reached Plain start count e a l u = lt-ltb a (2 ^ 32) (omega (arith, (narrow_range start count e).1))
range_reached (Pae place) start count e a l u = lt-ltb a (2 ^ 32) (omega (arith, (narrow_range start count e).1))
