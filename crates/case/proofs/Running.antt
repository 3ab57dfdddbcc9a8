-- A call on an opened case: what it is given, and what it answers.
use mathlib.Core.Path.{◌≡◌, refl, ◌∙◌}
use mathlib.Core.List.{List}
use mathlib.Core.Bool.{Bool, true, false, ◌||◌}
use Rattle.std.proofs.Common.{if◌then◌else◌}
use Prim.Native.Nat.{ℕ}
use lib.Dec.{eqb}
use lib.ListN.{take}
use Rattle.std.proofs.Common.{Result, Err, MutBor}
use Rattle.base.specs.Refusal.{refusal_number, unplaced, shown_position}
use Rattle.base.specs.declared.Fault.{Fault}
use Rattle.base.specs.declared.Refusal.{Refusal}
use Rattle.varint.specs.Reader.{Read, got, refused}
use Rattle.sheet.specs.declared.AddressSpace.{AddressSpace}
use Rattle.walk.specs.Walk.{World}
use Rattle.sheet.specs.Sheet.{Sheet}
use Rattle.walk.specs.Rows.{rows_world}
use Rattle.resolution.specs.Open.{open_world}
use Rattle.resolution.specs.declared.OpenCase.{OpenCase}
use Rattle.case.specs.Case.{Case, check_of, by_check, in_case}
use Rattle.case.specs.Run.{MayRun, Ran, RanIn}
use Rattle.case.proofs.Opening.{Accepted}

module _ (c : Case) {space : AddressSpace} {n : ℕ} {rows : List ℕ} (q : Accepted c space n rows) (o : OpenCase) (e : open_world o ≡ rows_world (take n rows) space c.image c.pagefile) where
  pub may_run : (P : OpenCase → Type 0) → MayRun c P → P o
  may_run P h = (rw q.check at h) o (e ∙ q.world)

  pub has_run : {T R : Type 0} (post : OpenCase → MutBor (List T) → Result R Fault → MutBor (List T) → Type 0) (lent left : MutBor (List T)) (r : Result R Fault) → post o lent r left → Ran c lent.now post r left.now
  has_run post lent left r h = rw q.check (record { case = o; world = e ∙ q.world; lent = lent; lends = refl; left = left; leaves = refl; answer = h })

-- what was promised of each run holds of the one that was made
pub ran_in : {T R : Type 0} (c : Case) (old : List T) (post : OpenCase → MutBor (List T) → Result R Fault → MutBor (List T) → Type 0) (r : Result R Fault) (new : List T) → Ran c old post r new
    → (P : World → List T → Result R Fault → List T → Type 0) → ((o : OpenCase) (lent left : MutBor (List T)) (x : Result R Fault) → post o lent x left → P (open_world o) lent.now x left.now)
    → in_case c (λ f. (r ≡ Err f) × (new ≡ old)) (λ w. P w old r new)
ran_in {T} {R} c old post r new h P each = go (check_of c) h
  where
    go : (d : Read Sheet) → by_check c (λ f. (r ≡ Err f) × (new ≡ old)) (λ w. RanIn w old post r new) d → by_check c (λ f. (r ≡ Err f) × (new ≡ old)) (λ w. P w old r new) d
    go (refused f) k = k
    go (got s at) k = rw (← k.world, ← k.lends, ← k.leaves) (each k.case k.lent k.left r k.answer)

-- a refusal without a place shows position 0
pub nowhere : (r : Refusal) → shown_position (unplaced r) ≡ 0
unfolding shown_position
nowhere r = go (eqb (refusal_number r) 11 || eqb (refusal_number r) 18)
  where
    go : (b : Bool) → ◌≡◌ {A = ℕ} (if b then 0 else 0) 0
    go true = refl
    go false = refl
