-- What running a call on an opened case hands back.
use Rattle.std.specs.Prelude.{◌≡◌, List, Result, Err}
use denote.Ref.{MutBor}
use Rattle.base.specs.declared.Fault.{Fault}
use Rattle.walk.specs.Walk.{World}
use Rattle.resolution.specs.declared.OpenCase.{OpenCase}
use Rattle.resolution.specs.Open.{open_world}
use Rattle.case.specs.Case.{Case, in_case, ForAccepted}

-- the call may be run on all that stands for an accepted case
abbrev pub MayRun : Case → (OpenCase → Type 0) → Type 0
MayRun c pre = ForAccepted c (λ w. (o : OpenCase) → open_world o ≡ w → pre o)

-- the call was run on what stands for the world w, and on the lent buffer
pub record RanIn {T R : Type 0} (w : World) (old : List T) (post : OpenCase → MutBor (List T) → Result R Fault → MutBor (List T) → Type 0) (r : Result R Fault) (new : List T) : Type 0 where
  pub case : OpenCase
  pub world : open_world case ≡ w
  pub lent : MutBor (List T)
  pub lends : lent.now ≡ old
  pub left : MutBor (List T)
  pub leaves : left.now ≡ new
  pub answer : post case lent r left

-- the same of a case; one at fault leaves the buffer as it was lent
abbrev pub Ran : {T R : Type 0} → Case → List T → (OpenCase → MutBor (List T) → Result R Fault → MutBor (List T) → Type 0) → Result R Fault → List T → Type 0
Ran {T} {R} c old post r new = in_case c (λ f. (r ≡ Err f) × (new ≡ old)) (λ w. RanIn w old post r new)
