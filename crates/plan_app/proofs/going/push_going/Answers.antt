use Rattle.plan_app.specs.Going as spec
use Rattle.plan_header.proofs.lemmas.Lines.{one_more}
use Rattle.plan_app.proofs.going.push_going.Goals as goal

pub machines-preserved : goal.machines-preserved
machines-preserved c =
    one_more (spec.machine_text c.args.plan.now.named.now c.args.plan.now.programs.now c.args.opening.now c.args.answers.now) _ _ _
    c.machines.machine c.machines.invariant c.in_ok-push_machine.ensures
