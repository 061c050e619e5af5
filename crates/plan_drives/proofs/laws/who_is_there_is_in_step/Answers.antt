use Rattle.plan_drives.proofs.lemmas.Going.{in_step}
use Rattle.plan_drives.proofs.laws.who_is_there_is_in_step.Goals as goal

pub returns : goal.returns
returns c =
    let a = c.args in
    let r = c.requires in
    in_step c.lawful_histories.ensures a.plan.now a.opening.now a.history.now a.machine a.program.now a.line c.machines.ensures.plan r.sound r.opens r.legal r.there r.at
