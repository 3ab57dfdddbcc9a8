-- What an entry says by itself can stand in a map: its refusal has a code, its pagefile page is below 2^32, its prototype address is canonical.
use mathlib.Core.Path.{◌≡◌, refl}
use mathlib.Core.Bool.{Bool, true, false, not, ◌&&◌}
use Prim.Native.Nat.{ℕ, zero, suc, ◌+◌, ◌-◌, ◌^◌, ◌<◌}
use native.Mathlib.Omega.{arith}
use lib.Dec.{eqb, ltb}
use borrow.Author.Tests.{lt-ltb, eqb-true, eqb-false}
use Rattle.std.specs.Prelude.{if◌then◌else◌, Option, Some, None}
use Rattle.base.specs.Notation.{bits, bit}
use Rattle.base.specs.Refusal.{refusal_number}
use Rattle.base.specs.Codes.{is_code}
use Rattle.base.specs.declared.Refusal.{Refusal}
use Rattle.base.specs.declared.Refusal.TheVariants.{FrameTooWide, FileBacked, OtherPagefile, PageInStore, UpperEntryNotValid, StateNotFollowed}
use Rattle.entry.specs.Addresses.{canonical, reachable, reachable_in}
use Rattle.entry.specs.Entry.{level_of, valid, too_wide, frame_of, pagefile_page_of, large_of, has_reserved, reserved_of, upper_of, valid_of, transition, transition_of, prototype, extended, in_store, software_of, leaf_of, narrow_leaf_of, leaf_in, prototype_of}
use Rattle.entry.specs.declared.Frame.{Frame}
use Rattle.entry.specs.declared.PagingMode.{PagingMode}
use Rattle.entry.specs.declared.PagingMode.TheVariants.{FourLevel, Plain, Pae}
use Rattle.entry.specs.declared.PageSize.{PageSize}
use Rattle.entry.specs.declared.PageSize.TheVariants.{Page4K, Page2M, Page4M, Page1G}
use Rattle.entry.specs.declared.Level.{Level}
use Rattle.entry.specs.declared.EntryPlace.{EntryPlace}
use Rattle.entry.specs.declared.EntryPlace.TheVariants.{InFrame, InPagefile, ZeroPage, Refused}
use Rattle.entry.specs.declared.Upper.{Upper}
use Rattle.entry.specs.declared.Upper.TheVariants.{Table, LargePage, UpperNeedsRegion}
use Rattle.entry.specs.declared.Upper.TheVariants as upper
use Rattle.entry.specs.declared.Leaf.{Leaf}
use Rattle.entry.specs.declared.Leaf.TheVariants.{Settled, Prototype, NeedsRegion}

abbrev pub EntryPlaceCoded : EntryPlace → Type 0
EntryPlaceCoded (InFrame f s) = Unit {0}
EntryPlaceCoded (InPagefile p) = p.0 < 2 ^ 32
EntryPlaceCoded ZeroPage = Unit {0}
EntryPlaceCoded (Refused r) = is_code (refusal_number r) ≡ true

valid_coded : (e : ℕ) → EntryPlaceCoded (valid_of e)
unfolding is_code
valid_coded e = go (too_wide e)
  where
    go : (b : Bool) → EntryPlaceCoded (if b then Refused FrameTooWide else InFrame (frame_of e) Page4K)
    go true = refl
    go false = tt

software_coded : (e : ℕ) → EntryPlaceCoded (software_of e)
unfolding is_code
software_coded e = go (eqb (bits e 32 63) 0) (in_store e) (not (eqb (bits e 1 4) 0))
  where
    small : bits e 32 63 < 2 ^ 32
    small = omega arith

    go : (a b c : Bool) → EntryPlaceCoded (if a then ZeroPage else if b then Refused PageInStore else if c then Refused OtherPagefile else InPagefile (pagefile_page_of e))
    go true b c = tt
    go false true c = refl
    go false false true = refl
    go false false false = small

-- the entry from step 4
pub prototype_coded : (e : ℕ) → EntryPlaceCoded (prototype_of e)
unfolding prototype_of is_code
prototype_coded e = go (valid e) (prototype e) (transition e)
  where
    go : (a b c : Bool) → EntryPlaceCoded (if a then valid_of e else if b then Refused FileBacked else if c then transition_of e else software_of e)
    go true b c = valid_coded e
    go false true c = refl
    go false false true = tt
    go false false false = software_coded e

abbrev pub UpperCoded : Upper → Type 0
UpperCoded (Table f) = Unit {0}
UpperCoded (LargePage f s) = Unit {0}
UpperCoded (upper.Refused r) = is_code (refusal_number r) ≡ true
UpperCoded UpperNeedsRegion = Unit {0}

large_coded : (s : PageSize) (f : Frame) → UpperCoded (large_of s f)
large_coded Page4K f = tt
large_coded Page2M f = tt
large_coded Page4M f = tt
large_coded Page1G f = tt

-- what a level's reserved bits give is a code
abbrev pub ReservedCoded : Option Refusal → Type 0
ReservedCoded None = Unit {0}
ReservedCoded (Some r) = is_code (refusal_number r) ≡ true

reserved_coded : (x : Option Refusal) (b : Bool) (u : Upper) → ReservedCoded x → UpperCoded u → UpperCoded (reserved_of x b u)
reserved_coded None b u h g = g
reserved_coded (Some r) true u h g = h
reserved_coded (Some r) false u h g = g

row_coded : (l : Level) (e : ℕ) → ReservedCoded l.reserved → UpperCoded (upper_of l e)
unfolding upper_of is_code
row_coded l e h = go (not (valid e)) l.region (too_wide e) (bit e 7)
  where
    go : (a b c d : Bool)
        → UpperCoded (
        if a then (if b then UpperNeedsRegion else upper.Refused UpperEntryNotValid) else
        if c then upper.Refused FrameTooWide else
        if d then reserved_of l.reserved (has_reserved l.large e) (large_of l.large (frame_of e)) else
        Table (frame_of e))
    go true true c d = tt
    go true false c d = refl
    go false b true d = refl
    go false b false false = tt
    go false b false true = reserved_coded l.reserved (has_reserved l.large e) (large_of l.large (frame_of e)) h (large_coded l.large (frame_of e))

levels_coded : (m : PagingMode) (n : ℕ) → ReservedCoded (level_of m n).reserved
unfolding level_of is_code
levels_coded FourLevel zero = tt
levels_coded FourLevel (suc zero) = refl
levels_coded FourLevel (suc (suc zero)) = refl
levels_coded FourLevel (suc (suc (suc n))) = refl
levels_coded Plain zero = tt
levels_coded Plain (suc n) = refl
levels_coded (Pae place) zero = tt
levels_coded (Pae place) (suc zero) = refl
levels_coded (Pae place) (suc (suc n)) = refl

pub upper_coded : (m : PagingMode) (n e : ℕ) → UpperCoded (upper_of (level_of m n) e)
upper_coded m n e = row_coded (level_of m n) e (levels_coded m n)

-- an extended address is canonical
extended_reaches : (x : ℕ) → x < 2 ^ 48 → reachable (extended x) ≡ true
unfolding reachable
extended_reaches x h = go (bit x 47) refl
  where
    high : bit x 47 ≡ true → bits (x + (2 ^ 64 - 2 ^ 48)) 47 63 ≡ 2 ^ 17 - 1
    high e = let t : bits x 47 47 ≡ 1 = eqb-true (bits x 47 47) 1 e in omega arith

    low : bit x 47 ≡ false → bits x 47 63 ≡ 0
    low e = let t : bits x 47 47 ≡ 1 → ⊥ = eqb-false (bits x 47 47) 1 e in omega (arith, t)

    go : (b : Bool) → bit x 47 ≡ b → (ltb (if b then x + (2 ^ 64 - 2 ^ 48) else x) (2 ^ 64) && canonical (if b then x + (2 ^ 64 - 2 ^ 48) else x)) ≡ true
    go true e = rw (lt-ltb (x + (2 ^ 64 - 2 ^ 48)) (2 ^ 64) (omega arith), high e)
    go false e = rw (lt-ltb x (2 ^ 64) (omega arith), low e)

-- a prototype address is one of the mode's own
abbrev pub LeafCoded : PagingMode → Leaf → Type 0
LeafCoded m (Settled r) = EntryPlaceCoded r
LeafCoded m (Prototype t) = reachable_in m t ≡ true
LeafCoded m NeedsRegion = Unit {0}

leaf_coded : (e : ℕ) → LeafCoded FourLevel (leaf_of e)
unfolding leaf_of reachable_in
leaf_coded e = go (valid e) (transition e) (prototype e && eqb (bits e 16 63) 0xFFFFFFFF0000) (prototype e) (eqb e 0)
  where
    small : bits e 16 63 < 2 ^ 48
    small = omega arith

    go : (a b c d f : Bool)
        → LeafCoded FourLevel (
        if a then Settled (valid_of e) else
        if b then Settled (transition_of e) else
        if c then NeedsRegion else
        if d then Prototype (extended (bits e 16 63)) else
        if f then NeedsRegion else
        Settled (software_of e))
    go true b c d f = valid_coded e
    go false true c d f = tt
    go false false true d f = tt
    go false false false true f = extended_reaches (bits e 16 63) small
    go false false false false true = tt
    go false false false false false = software_coded e

narrow_coded : (m : PagingMode) (e : ℕ) → LeafCoded m (narrow_leaf_of e)
unfolding narrow_leaf_of is_code
narrow_coded m e = go (valid e) (transition e)
  where
    go : (a b : Bool) → LeafCoded m (if a then Settled (valid_of e) else if b then Settled (transition_of e) else Settled (Refused StateNotFollowed))
    go true b = valid_coded e
    go false true = tt
    go false false = refl

pub leaf_in_coded : (m : PagingMode) (e : ℕ) → LeafCoded m (leaf_in m e)
unfolding leaf_in
leaf_in_coded FourLevel e = leaf_coded e
leaf_in_coded Plain e = narrow_coded Plain e
leaf_in_coded (Pae place) e = narrow_coded (Pae place) e
