use Rattle.plan_header.specs.Turns as spec
use Rattle.plan_header.proofs.lemmas.Lines.{item_more}
use Rattle.plan_header.proofs.turns.push_steps.Goals as goal

pub steps-preserved : goal.steps-preserved
steps-preserved c =
    item_more (spec.step_row c.args.named.now c.args.sensors.now c.args.machine) c.args.steps.now c.steps.step-index _ _ _ _
    c.steps-test.true c.steps.invariant c.in_ok-push_step.ensures
