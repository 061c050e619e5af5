use Rattle.std.proofs.Common.{◌≡◌, map, take, None}
use Rattle.plan_types.specs.Kept.{filled}
use Rattle.plan_types.specs.Table.{posture_of}
use Rattle.plan_words.proofs.plant.PlantTables.given_in.Given as goal

abbrev pub invariant-loop-number : goal.invariant-loop-number
invariant-loop-number l = l.gives ≡ filled (map (posture_of l.self l.pose) (take l.number l.zones)) None 10
