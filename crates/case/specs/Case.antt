-- 01 "Maps": a case is a sheet, an image and a pagefile; "Numbers handed back": the sheet is checked before anything else.
use Rattle.std.specs.Prelude.{List, ℕ, length}
use Rattle.base.specs.Refusal.{unplaced}
use Rattle.base.specs.declared.Fault.{Fault}
use Rattle.base.specs.declared.Refusal.TheVariants.{ModeNotServed}
use Rattle.entry.specs.declared.PagingMode.{PagingMode}
use Rattle.entry.specs.declared.PagingMode.TheVariants.{FourLevel, Plain, Pae}
use Rattle.varint.specs.Reader.{Read, got, refused}
use Rattle.sheet.specs.Sheet.{Sheet, sheet_of}
use Rattle.walk.specs.Walk.{World, world_of}

pub record Case : Type 0 where
  pub sheet : List ℕ
  pub image : List ℕ
  pub pagefile : List ℕ

abbrev pub case_of : List ℕ → List ℕ → List ℕ → Case
case_of sheet image pagefile = record { sheet = sheet; image = image; pagefile = pagefile }

-- the check of the sheet and the two lengths; a case is accepted if it finds no fault
abbrev pub check_of : Case → Read Sheet
check_of c = sheet_of c.sheet (length c.image) (length c.pagefile)

abbrev pub by_check {ℓ} : {A : Type ℓ} → Case → (Fault → A) → (World → A) → Read Sheet → A
by_check c refuse go (refused f) = refuse f
by_check c refuse go (got s at) = go (world_of s c.image c.pagefile)

-- 02, order 7: a call that serves four levels alone says 37 in the other modes, after the faults of the case
abbrev pub served_in : PagingMode → Read Sheet → Read Sheet
served_in FourLevel d = d
served_in Plain d = refused (unplaced ModeNotServed)
served_in (Pae place) d = refused (unplaced ModeNotServed)

abbrev pub served : Read Sheet → Read Sheet
served (refused f) = refused f
served (got s at) = served_in s.space.mode (got s at)

-- what is at fault, or on in the world of the accepted case
abbrev pub in_case {ℓ} : {A : Type ℓ} → Case → (Fault → A) → (World → A) → A
in_case c refuse go = by_check c refuse go (check_of c)

-- the same of a call that serves four levels alone
abbrev pub in_four_levels {ℓ} : {A : Type ℓ} → Case → (Fault → A) → (World → A) → A
in_four_levels c refuse go = by_check c refuse go (served (check_of c))

-- a promise about the world of an accepted case
abbrev pub ForAccepted : Case → (World → Type 0) → Type 0
ForAccepted c P = in_case c (λ f. Unit {0}) P

abbrev pub ForFourLevels : Case → (World → Type 0) → Type 0
ForFourLevels c P = in_four_levels c (λ f. Unit {0}) P
