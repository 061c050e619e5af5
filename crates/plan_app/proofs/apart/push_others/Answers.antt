use Rattle.plan_app.specs.Apart as spec
use Rattle.plan_header.proofs.lemmas.Lines.{one_more}
use Rattle.plan_app.proofs.apart.push_others.Goals as goal

pub machines-preserved : goal.machines-preserved
machines-preserved c =
    one_more (spec.next_name c.args.named.now c.args.groups.now c.args.first) _ _ _
    c.machines.machine c.machines.invariant c.in_ok-push_next.ensures
