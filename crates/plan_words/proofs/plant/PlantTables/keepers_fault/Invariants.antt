use Rattle.std.proofs.Common.{◌≡◌}
use Rattle.plan_types.specs.Below.{first_below}
use Rattle.plan_types.specs.Faults as faults
use Rattle.plan_words.proofs.plant.PlantTables.keepers_fault.Given as goal

abbrev pub invariant-loop-place : goal.invariant-loop-place
invariant-loop-place l = l.first ≡ first_below (faults.keeper_fault l.self) l.place
