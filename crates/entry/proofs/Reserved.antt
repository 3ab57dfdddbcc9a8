-- A valid entry with bit 7 set, by the level's reserved bits; without such bits it is judged as where none are looked at.
use mathlib.Core.Path.{◌≡◌, refl, ap}
use mathlib.Core.Bool.{Bool, true, false, not, ◌&&◌}
use Prim.Native.Nat.{ℕ}
use native.Mathlib.Omega.{arith}
use borrow.Author.Tests.{eq-eqb}
use Rattle.std.specs.Prelude.{if◌then◌else◌, Option, Some, None}
use Rattle.base.specs.Notation.{bits, bit}
use Rattle.base.specs.declared.Refusal.{Refusal}
use Rattle.base.specs.declared.Refusal.TheVariants.{UpperEntryNotValid, FrameTooWide}
use Rattle.entry.specs.Entry.{row, valid, too_wide, frame_of, large_of, has_reserved, reserved_of, upper_of}
use Rattle.entry.specs.declared.Upper.{Upper}
use Rattle.entry.specs.declared.Upper.TheVariants.{Table, UpperNeedsRegion}
use Rattle.entry.specs.declared.Upper.TheVariants as upper
use Rattle.entry.specs.declared.Level.{Level}

pub bit_seven : (l : Level) (e : ℕ) → bits e 0 0 ≡ 1 → bits e 48 51 ≡ 0 → bits e 7 7 ≡ 1
    → upper_of l e ≡ reserved_of l.reserved (has_reserved l.large e) (large_of l.large (frame_of e))
unfolding upper_of
bit_seven l e v w g = rw (eq-eqb (bits e 0 0) 1 v, eq-eqb (bits e 48 51) 0 w, eq-eqb (bits e 7 7) 1 g)

-- the same level, where no reserved bit is looked at
abbrev pub blank : Level → Level
blank l = row l.low l.entries l.bytes l.large None l.region

-- an entry without bit 7, or without reserved bits, is judged as under a row whose column is blank
pub without_reserved : (l : Level) (e : ℕ) → (bit e 7 && has_reserved l.large e) ≡ false → upper_of l e ≡ upper_of (blank l) e
unfolding upper_of
without_reserved l e h = go (bit e 7) (has_reserved l.large e) h
  where
    same_column : (x : Option Refusal) (u : Upper) → reserved_of x false u ≡ u
    same_column None u = refl
    same_column (Some r) u = refl

    judged : Bool → Upper → Upper
    judged b u =
        if not (valid e) then (if l.region then UpperNeedsRegion else upper.Refused UpperEntryNotValid) else
        if too_wide e then upper.Refused FrameTooWide else
        if b then u else Table (frame_of e)

    go : (b c : Bool) → (b && c) ≡ false → judged b (reserved_of l.reserved c (large_of l.large (frame_of e))) ≡ judged b (large_of l.large (frame_of e))
    go true true k = absurd (let z : ◌≡◌ {A = ℕ} 0 1 = cc in omega arith)
    go true false k = ap (judged true) (same_column l.reserved (large_of l.large (frame_of e)))
    go false c k = refl
