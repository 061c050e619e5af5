use Rattle.std.proofs.Common.{refl, below_more}
use Rattle.plan_rules.specs.State.{posture_at}
use Rattle.plan_motors.specs.Poses.{LeadToDanger}
use Rattle.plan_motors.proofs.poses.first_apart.Goals as goal

pub loop-host-preserved : goal.loop-host-preserved
loop-host-preserved c =
    below_more (λ m. LeadToDanger c.args.plan.now c.args.first.now c.args.second.now m (λ z. posture_at c.args.opening.now z)) c.loop-host.host c.loop-host.invariant (c.if-is_apart.ensures.danger refl)
