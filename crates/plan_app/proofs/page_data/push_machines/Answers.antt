use Rattle.plan_app.specs.PageData as spec
use Rattle.plan_header.proofs.lemmas.Lines.{one_more}
use Rattle.plan_app.proofs.page_data.push_machines.Goals as goal

pub machines-preserved : goal.machines-preserved
machines-preserved c =
    one_more (spec.next_item (spec.machine_item c.args.named.now)) _ _ _
    c.machines.machine c.machines.invariant c.in_ok-push_machine.ensures
