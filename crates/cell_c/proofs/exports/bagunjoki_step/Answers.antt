use Rattle.std.proofs.Common.{refl}
use Rattle.cell_c.proofs.exports.bagunjoki_step.Goals as goal

-- the numbers named this machine and this call, so they don't name none

pub returns-in-Some-step_word-clause-no_call : goal.returns-in-Some-step_word-clause-no_call
returns-in-Some-step_word-clause-no_call c =
    let machine = (c.in-Some.ensures _).0 refl in
    let call = (c.in-Some-call_with.ensures _).0 refl in
    λ no. absurd (no c.in-Some.machine c.in-Some-call_with.call (machine, call))

pub returns-in-None-clause-no_call : goal.returns-in-None-clause-no_call
returns-in-None-clause-no_call c =
    let machine = (c.in-Some.ensures _).0 refl in
    let call = (c.in-Some-call_with.ensures _).0 refl in
    λ no. absurd (no c.in-Some.machine c.in-Some-call_with.call (machine, call))
