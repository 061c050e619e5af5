use Rattle.std.proofs.Common.{sym, ◌∙◌, ap}
use Rattle.plan_motors.specs.Mask.{allows}
use Rattle.plan_motors.proofs.mask.is_permitted_in.Goals as goal

pub returns : goal.returns
returns c = λ s k e.
    let found = c.of.ensures.permits s k in
    let same = c.allows.ensures ∙ ap (allows c.of.result) (sym e) in
    (λ h. found.0 (sym same ∙ h), λ h. same ∙ found.1 h)
