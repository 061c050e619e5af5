use Rattle.plan_rules.specs.Laws.{StaysSound}
use Rattle.plan_rules.proofs.Histories.{throughout}
use Rattle.plan_rules.proofs.Histories.{sound-after}
use Rattle.plan_rules.proofs.laws.stays_sound.Goals as goal

pub returns : goal.returns
returns c =
    let t = c.args.plan.now in
    let s = c.args.opening.now in
    throughout t s (StaysSound t s) (λ h _. sound-after t s h c.machines.ensures.plan c.requires.sound) c.args.history.now c.requires.legal
