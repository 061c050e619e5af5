use Rattle.std.proofs.Common.{◌≡◌, ◌++◌, string_bytes, flat_map, take}
use Rattle.plan_app.specs.PlantGoing as spec
use Rattle.plan_app.proofs.plant_going.push_asked_by.Given as goal

abbrev pub invariant-events : goal.invariant-events
invariant-events l =
    string_bytes l.text ≡ string_bytes l.initial.text ++ flat_map (spec.asked_line l.plans) (take l.event-index l.events)
