-- What the map call hands back, and its promise.
use Rattle.std.specs.Prelude.{ℕ, ◌≡◌, true, List, ltb, length, if◌then◌else◌}
use Rattle.base.specs.Written.{WriteOutcome, unwritten, fault_outcome, written}
use Rattle.base.specs.declared.Refusal.TheVariants.{BadMapRange, MapBufferShort}
use Rattle.base.specs.declared.Written.{Written}
use Rattle.walk.specs.Walk.{World}
use Rattle.case.specs.Case.{Case, in_case, ForAccepted}
use Rattle.case.specs.Answer.{GroundedAt}
use Rattle.maps.specs.MapOf.{allowed, map_of}
use Rattle.maps.specs.Demand3.{Demand3}

-- 44 exactly if the map is longer than the buffer; bytes past the map stay
abbrev pub map_outcome : World → ℕ → ℕ → List ℕ → WriteOutcome
map_outcome w start count out =
    if ltb (length out) (length (map_of w start count)) then unwritten out MapBufferShort else
    written out (map_of w start count)

-- the sheet, then 40, then 44
unfoldable pub map_call : Case → ℕ → ℕ → List ℕ → WriteOutcome
map_call c start count out = in_case c (fault_outcome out) λ w.
    if allowed w.space.mode start count then map_outcome w start count out else unwritten out BadMapRange

-- the map call's promise: what it hands back, demand 3 for an allowed range, and that the walk rests on what the files hold
pub record MapAnswer (c : Case) (start count : ℕ) (old : List ℕ) (r : Written) (new : List ℕ) : Type 0 where
  pub same : record { answer = r; buffer = new } ≡ map_call c start count old
  pub demand3 : ForAccepted c (λ w. allowed w.space.mode start count ≡ true → Demand3 w start count old (record { answer = r; buffer = new }))
  pub grounded : (a : ℕ) → GroundedAt c a
