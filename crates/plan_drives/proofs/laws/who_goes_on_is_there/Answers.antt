use Rattle.plan_drives.proofs.lemmas.Going.{comes_there}
use Rattle.plan_drives.proofs.laws.who_goes_on_is_there.Goals as goal

pub returns : goal.returns
returns c =
    let a = c.args in
    comes_there a.plan.now a.opening.now a.history.now a.machine a.program.now a.from a.line c.requires.in_step c.requires.come
