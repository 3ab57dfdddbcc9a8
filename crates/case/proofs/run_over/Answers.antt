-- The call is run on what opening the case gives.
use mathlib.Core.Path.{refl}
use Rattle.case.proofs.Opening.{accepted_case}
use Rattle.case.proofs.Running.{may_run, has_run}
use Rattle.case.proofs.run_over.Goals as goal

pub call-requires : goal.call-requires
call-requires g c =
    let opened = accepted_case _ _ _ _ _ c.requires.enough c.open_case.ensures c.in_ok-space.was in
    may_run _ opened _ refl _ c.requires.may_run _ refl

pub returns : goal.returns
returns g c =
    let opened = accepted_case _ _ _ _ _ c.requires.enough c.open_case.ensures c.in_ok-space.was in
    has_run _ opened _ refl (λ o lent r left. g.F.FnOnce.post c.args.call (o, (lent, tt)) (r, (left, tt))) _ _ _ c.call.ensures
