use Rattle.plan_app.specs.PlantGoing as spec
use Rattle.plan_header.proofs.lemmas.Lines.{one_more}
use Rattle.plan_app.proofs.plant_going.push_each.Goals as goal

pub machines-preserved : goal.machines-preserved
machines-preserved c =
    let plant = c.args.plant.now in
    one_more
    (spec.own_text (spec.machines_of plant.group) c.args.named.now plant.plans.now plant.programs.now.programs plant.openings.now
    c.args.answers.now) _ _ _ c.machines.machine c.machines.invariant c.in_ok-push_own.ensures
