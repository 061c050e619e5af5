use Rattle.std.proofs.Common.{◌≡◌, [], drop}
use Rattle.plan_words.specs.Plant.{all_put_on}
use Rattle.plan_words.proofs.plant.PlantTables.sharers.Given as goal

abbrev pub invariant-loop-label : goal.invariant-loop-label
invariant-loop-label l = all_put_on l.self (drop l.label-index l.groups) l.words.items ≡ all_put_on l.self l.groups []
