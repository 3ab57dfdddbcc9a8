-- Which position a fault shows, by its number.
use mathlib.Core.Path.{◌≡◌, refl}
use Rattle.std.proofs.Common.{◌⊎◌, inl, inr}
use Prim.Native.Nat.{ℕ}
use borrow.Author.Tests.{eq-eqb, ne_eqb}
use Rattle.base.specs.Refusal.{refusal_number, shown_position}
use Rattle.base.specs.declared.Fault.{Fault}
use Rattle.base.specs.declared.Refusal.{Refusal}
use Rattle.base.specs.declared.Refusal.TheVariants.{
  Truncated,
  NumberTooLong,
  OutOfLimits,
  BadRun,
  TrailingBytes,
  ImageLengthDiffers,
  PagefileNotWholePages,
  SheetBufferShort,
  NumberNotShortest,
  NotCanonical,
  UpperEntryNotValid,
  RegionNeeded,
  FrameInNoRun,
  FrameTooWide,
  FileBacked,
  OtherPagefile,
  PastPagefile,
  PrototypeChainTooLong,
  PrototypeUnaligned,
  PageInStore,
  ReservedBitSet,
  StateNotFollowed,
  ModeNotServed,
  BadMapRange,
  OutsideMap,
  BadExtent,
  MapBufferShort,
  ReadBufferShort,
  LinkUnaligned,
  BackLinkDiffers,
  TooManyProcesses,
  ListBufferShort,
  NoProcessorBlock,
  TimeZero,
  TimeTooLarge,
  ImageNotWholePages,
  PoolBufferShort,
}

-- n is the refusal's number
module _ (f : Fault) (n : ℕ) (e : n ≡ refusal_number f.refusal) where
  pub too_long_shown : n ≡ 11 → f.position ≡ shown_position f
  unfolding shown_position
  too_long_shown h = rw (← e, eq-eqb n 11 h)

  pub not_shortest_shown : (n ≡ 11 → ⊥) → n ≡ 18 → f.position ≡ shown_position f
  unfolding shown_position
  not_shortest_shown g h = rw (← e, ne_eqb n 11 g, eq-eqb n 18 h)

  pub others_show_none : (n ≡ 11 → ⊥) → (n ≡ 18 → ⊥) → 0 ≡ shown_position f
  unfolding shown_position
  others_show_none g h = rw (← e, ne_eqb n 11 g, ne_eqb n 18 h)

none_shown : (r : Refusal) (p : ℕ) → (r ≡ NumberTooLong → ⊥) → (r ≡ NumberNotShortest → ⊥) → 0 ≡ shown_position (record { refusal = r; position = p })
unfolding shown_position
none_shown Truncated p g h = refl
none_shown NumberTooLong p g h = absurd (g refl)
none_shown OutOfLimits p g h = refl
none_shown BadRun p g h = refl
none_shown TrailingBytes p g h = refl
none_shown ImageLengthDiffers p g h = refl
none_shown PagefileNotWholePages p g h = refl
none_shown SheetBufferShort p g h = refl
none_shown NumberNotShortest p g h = absurd (h refl)
none_shown NotCanonical p g h = refl
none_shown UpperEntryNotValid p g h = refl
none_shown RegionNeeded p g h = refl
none_shown FrameInNoRun p g h = refl
none_shown FrameTooWide p g h = refl
none_shown FileBacked p g h = refl
none_shown OtherPagefile p g h = refl
none_shown PastPagefile p g h = refl
none_shown PrototypeChainTooLong p g h = refl
none_shown PrototypeUnaligned p g h = refl
none_shown PageInStore p g h = refl
none_shown ReservedBitSet p g h = refl
none_shown StateNotFollowed p g h = refl
none_shown ModeNotServed p g h = refl
none_shown BadMapRange p g h = refl
none_shown OutsideMap p g h = refl
none_shown BadExtent p g h = refl
none_shown MapBufferShort p g h = refl
none_shown ReadBufferShort p g h = refl
none_shown LinkUnaligned p g h = refl
none_shown BackLinkDiffers p g h = refl
none_shown TooManyProcesses p g h = refl
none_shown ListBufferShort p g h = refl
none_shown NoProcessorBlock p g h = refl
none_shown TimeZero p g h = refl
none_shown TimeTooLarge p g h = refl
none_shown ImageNotWholePages p g h = refl
none_shown PoolBufferShort p g h = refl

-- 11 and 18 by name, and all others
pub shown_for : (f : Fault) → (f.refusal ≡ NumberTooLong) ⊎ (f.refusal ≡ NumberNotShortest) → f.position ≡ shown_position f
unfolding shown_position
shown_for f (inl e) = rw e
shown_for f (inr e) = rw e

pub no_position : (f : Fault) → (f.refusal ≡ NumberTooLong → ⊥) → (f.refusal ≡ NumberNotShortest → ⊥) → 0 ≡ shown_position f
no_position f g h = none_shown f.refusal f.position g h
