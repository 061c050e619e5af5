use Rattle.std.proofs.Common.{◌≡◌}
use Rattle.plan_types.specs.Table.{space_of}
use Rattle.plan_words.proofs.plant.PlantTables.space.Given as goal

abbrev pub invariant-loop-before : goal.invariant-loop-before
invariant-loop-before l = l.space ≡ space_of l.self l.before
