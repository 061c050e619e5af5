use Rattle.std.proofs.Common.{inl, subst}
use Rattle.plan_types.specs.Plan.{IsPlan}
use Rattle.plan_drives.proofs.lemmas.Going.{permitted_at, in_round}
use Rattle.plan_drives.proofs.laws.drives_are_permitted_in_each_round.Goals as goal

pub returns : goal.returns
returns c =
    let a = c.args in
    let r = c.requires in
    let p = subst IsPlan c.plan.ensures.plan c.machines.ensures.plan in
    let at = inl (in_round a.plan.now.plan a.opening.now a.history.now a.machine a.program.now a.line r.come) in
    permitted_at c.lawful_histories.ensures a.plan.now a.opening.now a.history.now a.machine a.program.now a.line a.motor p r.sound r.opens r.legal r.driven at r.runs
