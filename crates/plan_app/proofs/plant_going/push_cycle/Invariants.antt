use Rattle.std.proofs.Common.{◌≡◌, ◌++◌, string_bytes, drop, None}
use Rattle.plan_app.specs.PlantGoing.{after_all, walk_text}
use Rattle.plan_app.proofs.plant_going.push_cycle.Given as goal

abbrev pub invariant-turners : goal.invariant-turners
invariant-turners l =
    let plans = l.plant.plans.now in
    let ps = l.plant.programs.now.programs in
    let openings = l.plant.openings.now in
    string_bytes l.text
    ++ walk_text plans ps l.who (after_all plans ps openings l.way.items) l.last (drop l.turner-index l.cycle)
    ≡ string_bytes l.initial.text ++ walk_text plans ps l.who (after_all plans ps openings l.stem) None l.cycle
