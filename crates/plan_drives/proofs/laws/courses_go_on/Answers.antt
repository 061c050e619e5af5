use Rattle.plan_drives.proofs.lemmas.Going as going
use Rattle.plan_drives.proofs.laws.courses_go_on.Goals as goal

pub returns-clause-at : goal.returns-clause-at
returns-clause-at c =
    let a = c.args in
    going.courses_go_on a.plan.now a.opening.now a.history.now a.machine a.program.now

pub returns-clause-round : goal.returns-clause-round
returns-clause-round c =
    let a = c.args in
    going.rounds_go_on a.plan.now a.opening.now a.history.now a.machine a.program.now
