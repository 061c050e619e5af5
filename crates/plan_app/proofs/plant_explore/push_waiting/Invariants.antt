use Rattle.std.proofs.Common.{◌≡◌, ◌++◌, string_bytes, flat_map, take}
use Rattle.plan_app.specs.PlantScreens as spec
use Rattle.plan_app.proofs.plant_explore.push_waiting.Given as goal

abbrev pub invariant-events : goal.invariant-events
invariant-events l =
    string_bytes l.text ≡ string_bytes l.initial.text ++ flat_map (spec.wait_line l.plans) (take l.event-index l.waiting)
