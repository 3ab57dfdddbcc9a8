-- What is mapped of the opened case is what the map call says of the case.
use Rattle.std.proofs.Common.{rules}
use Rattle.maps.proofs.Whole.{may_map, map_answer}
use Rattle.maps.proofs.map_range.Goals as goal

pub with_case-mapped-requires : goal.with_case-mapped-requires
with_case-mapped-requires c = may_map _ _ (λ o l lent e. l)

pub returns-in-Ok : goal.returns-in-Ok
returns-in-Ok c = rw c.in-Ok.is at (map_answer _ c.args.start c.args.pages _ _ _ _ c.with_case-mapped.ensures (λ o lent left x h. search rules))

pub returns-in-Err : goal.returns-in-Err
returns-in-Err c = rw c.into.ensures (rw c.in-Err.is at (map_answer _ c.args.start c.args.pages _ _ _ _ c.with_case-mapped.ensures (λ o lent left x h. search rules)))
