-- What the calls on one address hand back.
use Rattle.std.specs.Prelude.{◌≡◌, List, ℕ}
use Rattle.walk.specs.Walk.{resolve_of}
use Rattle.case.specs.Case.{Case, in_case}
use Rattle.case.specs.Answer.{answer_of, fault_answer, GroundedAt}
use Rattle.case.specs.declared.Answer.{Answer}
use Rattle.address.specs.Page.{no_part, part_of, part_bytes, PartInside, PageLies}
use Rattle.address.specs.declared.Part.{Part}

-- the address call
unfoldable pub address_of : Case → ℕ → Answer
address_of c a = in_case c fault_answer (λ w. answer_of (resolve_of 3 w a))

-- the answer, and that it rests on what the files hold
pub record AddressAnswer (c : Case) (a : ℕ) (r : Answer) : Type 0 where
  pub same : r ≡ address_of c a
  pub grounded : GroundedAt c a

-- where the page lies
unfoldable pub page_part : Case → ℕ → Part
page_part c a = in_case c (λ f. no_part) (λ w. part_of (resolve_of 3 w a).place)

-- the place, that it lies in its file, and that it rests on what the files hold
pub record PageAnswer (c : Case) (a : ℕ) (r : Part) : Type 0 where
  pub same : r ≡ page_part c a
  pub inside : PartInside c.image c.pagefile r
  pub grounded : GroundedAt c a

-- the page call
unfoldable pub page_bytes : Case → ℕ → List ℕ
page_bytes c a = part_bytes c.image c.pagefile (page_part c a)

-- the bytes, where they lie by what the address call answers, and that they rest on what the files hold
pub record PageBytesAnswer (c : Case) (a : ℕ) (bytes : List ℕ) : Type 0 where
  pub same : bytes ≡ page_bytes c a
  pub lies : PageLies c.image c.pagefile (address_of c a) bytes
  pub grounded : GroundedAt c a
