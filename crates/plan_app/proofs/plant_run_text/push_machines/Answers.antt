use Rattle.plan_app.specs.PlantRunTexts as spec
use Rattle.plan_header.proofs.lemmas.Lines.{one_more}
use Rattle.plan_app.proofs.plant_run_text.push_machines.Goals as goal

pub machines-preserved : goal.machines-preserved
machines-preserved c =
    one_more (spec.machine_lines c.args.plans.now c.args.first.now c.args.events.now c.args.stops.now) _ _ _ c.machines.machine
    c.machines.invariant c.in_ok-push_machine.ensures
