use Rattle.std.proofs.Common.{subst}
use Rattle.plan_types.specs.Plan.{IsPlan}
use Rattle.plan_drives.proofs.lemmas.Going.{never_both_from_start}
use Rattle.plan_drives.proofs.laws.hazards_are_never_driven_from_start.Goals as goal

pub returns : goal.returns
returns c =
    let a = c.args in
    let r = c.requires in
    let p = subst IsPlan c.plan.ensures.plan c.machines.ensures.plan in
    λ other.
    never_both_from_start c.lawful_histories.ensures a.plan.now a.start.now a.history.now a.machine a.other a.program.now a.other_program.now a.motor a.other_motor p r.start r.legal r.driven r.other_driven r.excluded r.runs other
