use Rattle.std.proofs.Common.{arith}
use Rattle.plan_motors.specs.OfPlan.{no_hazard}
use Rattle.plan_picture.specs.Pictures.{IsVerdictOf}
use Rattle.plan_picture.proofs.lemmas.Zips.{zip_more}
use Rattle.plan_picture.proofs.verdicts.verdicts_of.Goals as goal

pub loop-i-preserved : goal.loop-i-preserved
loop-i-preserved c =
    zip_more (IsVerdictOf c.args.plan.now.named.plan c.args.plan.now.motors.motors.items)
    c.args.plan.now.motors.hazards.items c.loop-i.i no_hazard c.loop-i.verdicts.items c.push.new.self.items
    c.verdict_at.result (omega arith) c.loop-i.invariant c.verdict_at.ensures c.in_ok-push.ensures.items
