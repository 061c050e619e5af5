use Rattle.std.proofs.Common.{◌≡◌}
use Rattle.plan_types.specs.Below.{first_below}
use Rattle.plan_types.specs.Faults as faults
use Rattle.plan_words.proofs.plant.PlantTables.half_spaces_fault.Given as goal

abbrev pub invariant-loop-pose : goal.invariant-loop-pose
invariant-loop-pose l = l.first ≡ first_below (faults.halves_fault l.self) l.pose
