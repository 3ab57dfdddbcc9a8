-- What the list call hands back.
use Rattle.std.specs.Prelude.{ℕ, ◌%◌, ◌≡◌, List, Ok, Err, length}
use Rattle.base.specs.Written.{WriteOutcome, unwritten, fault_outcome, written}
use Rattle.base.specs.declared.Written.{Written}
use Rattle.walk.specs.Walk.{resolve_of}
use Rattle.walk.specs.Rows.{WordInside}
use Rattle.case.specs.Case.{Case, in_four_levels, ForFourLevels}
use Rattle.case.specs.Answer.{GroundedAt}
use Rattle.process_list.specs.List.{Nodes, nodes_of}
use Rattle.process_list.specs.Exact.{ExactList}

-- a 64-bit number a node at the front of the lent buffer, and their count; or the refusal
abbrev pub nodes_outcome : List ℕ → Nodes → WriteOutcome
nodes_outcome out (Ok xs) = written out xs
nodes_outcome out (Err r) = unwritten out r

unfoldable pub list_of : Case → ℕ → List ℕ → WriteOutcome
list_of c h out = in_four_levels c (fault_outcome out) (λ w. nodes_outcome out (nodes_of w (length out) h))

-- the list call's promise: what it hands back, demand 2 for four levels, and that links and walks rest on what the files hold
pub record ListAnswer (c : Case) (h : ℕ) (old : List ℕ) (r : Written) (new : List ℕ) : Type 0 where
  pub same : record { answer = r; buffer = new } ≡ list_of c h old
  pub exact : ForFourLevels c (λ w. ExactList w h old (record { answer = r; buffer = new }))
  -- each word at a multiple of 8 lies in its file: what is not a page of zeros, and not refused, was found
  pub found : ForFourLevels c (λ w. (a : ℕ) → a % 8 ≡ 0 → WordInside w.image w.pagefile (resolve_of 3 w a).place)
  pub grounded : (a : ℕ) → GroundedAt c a
