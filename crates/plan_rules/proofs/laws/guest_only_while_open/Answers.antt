use Rattle.plan_rules.specs.Laws.{GuestOnlyWhileOpen}
use Rattle.plan_rules.proofs.Histories.{throughout}
use Rattle.plan_rules.proofs.HolderLaws.{guest_only_while_open}
use Rattle.plan_rules.proofs.laws.guest_only_while_open.Goals as goal

pub returns : goal.returns
returns c =
    let t = c.args.plan.now in
    let s = c.args.opening.now in
    throughout t s (GuestOnlyWhileOpen t s) (guest_only_while_open t s c.machines.ensures.plan c.requires.sound) c.args.history.now c.requires.legal
