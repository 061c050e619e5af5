use Rattle.plan_motors.proofs.lemmas.Masking.{mask_permits}
use Rattle.plan_motors.proofs.mask.MotorMask.of.Goals as goal

pub returns-clause-permits : goal.returns-clause-permits
returns-clause-permits c = λ s k. mask_permits c.words_are_laid_out.ensures c.args.plan.now c.args.motor.now _ s c.mask_of.ensures c.pattern_of.ensures k
