use Rattle.plan_drives.proofs.lemmas.Going.{shown_owns}
use Rattle.plan_drives.proofs.laws.who_is_shown_owns.Goals as goal

pub returns : goal.returns
returns c =
    let a = c.args in
    let r = c.requires in
    shown_owns a.plan.now a.opening.now a.before.now a.inquiry a.machine a.zone a.flag a.posture r.legal r.call r.answer
