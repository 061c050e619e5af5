use Rattle.std.proofs.Common.{◌≡◌, ◌++◌, string_bytes, flat_map}
use Rattle.std.specs.List.{range_with_len}
use Rattle.plan_app.specs.PlantGoing as spec
use Rattle.plan_app.proofs.plant_going.push_each.Given as goal

abbrev pub invariant-machines : goal.invariant-machines
invariant-machines l =
    string_bytes l.text ≡ string_bytes l.initial.text
    ++ flat_map
    (spec.own_text (spec.machines_of l.plant.group) l.named l.plant.plans.now l.plant.programs.now.programs l.plant.openings.now
    l.answers) (range_with_len 0 l.machine)
