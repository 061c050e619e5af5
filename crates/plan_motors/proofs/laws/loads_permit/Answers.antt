use Rattle.plan_motors.proofs.lemmas.Running.{kept_permits}
use Rattle.plan_motors.proofs.lemmas.Masking.{mask_permits}
use Rattle.plan_motors.proofs.laws.loads_permit.Goals as goal

pub returns : goal.returns
returns c =
    let now = (mask_permits c.words_are_laid_out.ensures c.args.plan.now c.args.motor.now c.args.mask.now c.args.loaded.now c.requires.mask.mask c.requires.mask.pattern c.requires.loaded).0 c.requires.allowed in
    kept_permits c.lawful_histories.ensures c.args.plan.now c.args.motor.now c.args.loaded.now c.args.since.now c.machines.ensures.plan c.requires.motor c.requires.loaded.sound now c.requires.kept
