-- What the laws of maps ask of pages and of lists of extents.
use mathlib.Core.Path.{◌≡◌}
use mathlib.Core.Bool.{true, false}
use mathlib.Core.List.{List, [], ◌∷◌}
use Prim.Native.Nat.{ℕ, ◌^◌, ◌<◌}
use lib.ListN.{length, get_or}
use Rattle.base.specs.Codes.{is_code}
use Rattle.map_format.specs.Extents.{mapped_page, has_file_page, page_at, extent_pages, Lengths}
use Rattle.map_format.specs.declared.Extent.{Extent}
use Rattle.map_format.specs.declared.MappedPage.{MappedPage}

-- page k of a list of pages, counted from 0
abbrev pub nth_page : List MappedPage → ℕ → MappedPage
nth_page ps k = get_or ps k (mapped_page 0 0)

-- pages of a code other than 1 and 2 have file page 0
abbrev pub ZeroWithoutFile : List MappedPage → Type 0
ZeroWithoutFile [] = Unit {0}
ZeroWithoutFile (p ∷ ps) = (has_file_page p.code ≡ false → p.file ≡ 0) × ZeroWithoutFile ps

-- the same code and, for 1 and 2, the same page of the file
pub record SameAnswer (a p : MappedPage) : Type 0 where
  pub code : a.code ≡ p.code
  pub file : has_file_page p.code ≡ true → a.file ≡ p.file

-- a list of extents, neighbours joined or not, that answers as the pages do
pub record AnswersAs (es : List Extent) (ps : List MappedPage) : Type 0 where
  pub lengths : Lengths es
  pub sum : extent_pages es ≡ length ps
  pub answers : (k : ℕ) → k < length ps → SameAnswer (page_at es k) (nth_page ps k)

-- a page that a map can hold
pub record Mappable (p : MappedPage) : Type 0 where
  pub code : is_code p.code ≡ true
  pub file : p.file < 2 ^ 36
  pub zero_without_file : has_file_page p.code ≡ false → p.file ≡ 0

abbrev pub AllMappable : List MappedPage → Type 0
AllMappable [] = Unit {0}
AllMappable (p ∷ ps) = Mappable p × AllMappable ps
