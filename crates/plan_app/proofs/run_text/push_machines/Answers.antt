use Rattle.plan_app.specs.RunTexts as spec
use Rattle.plan_header.proofs.lemmas.Lines.{one_more}
use Rattle.plan_app.proofs.run_text.push_machines.Goals as goal

pub machines-preserved : goal.machines-preserved
machines-preserved c =
    one_more (spec.machine_lines c.args.named.now c.args.run.now.history.items c.args.run.now.stops.items) _ _ _ c.machines.machine
    c.machines.invariant c.in_ok-push_machine.ensures
