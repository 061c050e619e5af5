use Rattle.plan_header.proofs.lemmas.Lines.{one_more}
use Rattle.plan_picture.specs.Pictures as spec
use Rattle.plan_picture.proofs.picture.push_machines.Goals as goal

pub machines-preserved : goal.machines-preserved
machines-preserved c =
    one_more (spec.machine_part c.args.shown.now) _ _ _ c.machines.machine c.machines.invariant c.in_ok-push_machine.ensures
