use Rattle.std.proofs.Common.{◌≡◌, filter, map}
use Rattle.std.specs.List.{range_with_len}
use Rattle.plan_words.specs.Groups.{label_of}
use Rattle.plan_words.specs.Plant.{is_first}
use Rattle.plan_words.proofs.plant.PlantTables.first_labels.Given as goal

abbrev pub invariant-loop-zone : goal.invariant-loop-zone
invariant-loop-zone l = l.firsts.items ≡ map (label_of l.labels) (filter (is_first l.labels) (range_with_len 0 l.zone))
