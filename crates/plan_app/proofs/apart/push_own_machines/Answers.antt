use Rattle.plan_app.specs.Apart as spec
use Rattle.plan_header.proofs.lemmas.Lines.{one_more}
use Rattle.plan_app.proofs.apart.push_own_machines.Goals as goal

pub machines-preserved : goal.machines-preserved
machines-preserved c =
    one_more
    (spec.own_text (spec.group_of c.args.own.now.groups.now c.args.own.now.first) c.args.plan.now.named.now c.args.plan.now.programs.now
    c.args.opening.now c.args.own.now.answers.now) _ _ _
    c.machines.machine c.machines.invariant c.in_ok-push_own_machine.ensures
