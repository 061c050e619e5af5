use Rattle.std.proofs.Common.{◌≡◌}
use Rattle.plan_types.specs.Below.{first_below}
use Rattle.plan_types.specs.Faults as faults
use Rattle.plan_words.proofs.plant.PlantTables.zones_fault.Given as goal

abbrev pub invariant-loop-zone : goal.invariant-loop-zone
invariant-loop-zone l = l.first ≡ first_below (faults.zone_fault l.self) l.zone
