use Rattle.std.proofs.Common.{◌≡◌}
use Rattle.plan_types.specs.Below.{any_below}
use Rattle.plan_types.specs.Faults as faults
use Rattle.plan_words.proofs.plant.PlantTables.is_guest_again.Given as goal

abbrev pub invariant-loop-other : goal.invariant-loop-other
invariant-loop-other l = l.again ≡ any_below (faults.has_guest_of l.self l.zone) l.other
