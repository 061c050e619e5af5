use Rattle.plan_drives.proofs.lemmas.Going.{opens_later}
use Rattle.plan_drives.proofs.laws.openings_by_poses_last.Goals as goal

pub returns : goal.returns
returns c =
    let a = c.args in
    let r = c.requires in
    opens_later c.lawful_histories.ensures a.plan.now a.opening.now a.history.now c.machines.ensures.plan r.sound r.opens r.legal
