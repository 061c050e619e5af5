use Rattle.plan_motors.proofs.lemmas.Excluding.{never_both}
use Rattle.plan_motors.proofs.Posing.{from_all}
use Rattle.plan_motors.proofs.verdict.judge.Goals as goal

pub returns-in-Excluded-clause-never : goal.returns-in-Excluded-clause-never
returns-in-Excluded-clause-never c = λ e.
    from_all c.args.plan.now c.args.first.now c.args.second.now c.args.opening.now c.machines.ensures.plan
    (never_both c.args.plan.now c.args.first.now c.args.second.now c.in-Excluded.cause c.in-Excluded.ensures.shown)
