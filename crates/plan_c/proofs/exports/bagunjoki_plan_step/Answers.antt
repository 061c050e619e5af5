use Rattle.std.proofs.Common.{refl}
use Rattle.plan_c.proofs.exports.bagunjoki_plan_step.Goals as goal

-- numbers that name a call are no numbers of none
pub returns-in-Some-clause-no_call : goal.returns-in-Some-clause-no_call
returns-in-Some-clause-no_call c =
    λ none. absurd (none c.in-Some.field-0 ((c.in-Some.ensures c.in-Some.field-0).0 refl))

pub returns-in-Some-2-clause-no_call : goal.returns-in-Some-2-clause-no_call
returns-in-Some-2-clause-no_call c =
    λ none. absurd (none c.in-Some-2.call ((c.in-Some-2.ensures c.in-Some-2.call).0 refl))
