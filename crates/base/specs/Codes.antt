-- 01 "Maps": the numbers that an extent can have as its code.
use Rattle.std.specs.Prelude.{ℕ, Bool, false, ◌||◌, List, [], ◌∷◌, eqb}
use Rattle.base.specs.Refusal.{refusal_number}
use Rattle.base.specs.declared.Refusal.TheVariants.{
  UpperEntryNotValid,
  RegionNeeded,
  FrameInNoRun,
  FrameTooWide,
  FileBacked,
  OtherPagefile,
  PastPagefile,
  PrototypeChainTooLong,
  PrototypeUnaligned,
  PageInStore,
  ReservedBitSet,
  StateNotFollowed,
}

-- image, pagefile, page of zeros, and each refusal that an address in the address space can get
abbrev pub codes : List ℕ
codes =
    1
    ∷ 2
    ∷ 3
    ∷ refusal_number UpperEntryNotValid
    ∷ refusal_number RegionNeeded
    ∷ refusal_number FrameInNoRun
    ∷ refusal_number FrameTooWide
    ∷ refusal_number FileBacked
    ∷ refusal_number OtherPagefile
    ∷ refusal_number PastPagefile
    ∷ refusal_number PrototypeChainTooLong
    ∷ refusal_number PrototypeUnaligned
    ∷ refusal_number PageInStore
    ∷ refusal_number ReservedBitSet
    ∷ refusal_number StateNotFollowed
    ∷ []

abbrev pub member : ℕ → List ℕ → Bool
member n [] = false
member n (m ∷ ms) = eqb n m || member n ms

unfoldable pub is_code : ℕ → Bool
is_code n = member n codes
