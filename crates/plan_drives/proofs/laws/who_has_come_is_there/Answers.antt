use Rattle.plan_drives.proofs.lemmas.Going.{in_round}
use Rattle.plan_drives.proofs.laws.who_has_come_is_there.Goals as goal

pub returns : goal.returns
returns c =
    let a = c.args in
    in_round a.plan.now a.opening.now a.history.now a.machine a.program.now a.line c.requires
