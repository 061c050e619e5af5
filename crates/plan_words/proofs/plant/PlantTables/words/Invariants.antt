use Rattle.std.proofs.Common.{◌≡◌, map, take}
use Rattle.plan_words.specs.Plant.{shared_word}
use Rattle.plan_words.proofs.plant.PlantTables.words.Given as goal

abbrev pub invariant-loop-groups : goal.invariant-loop-groups
invariant-loop-groups l = l.made.items ≡ map (shared_word l.self) (take l.groups-index l.sharers)
