use Rattle.std.proofs.Common.{◌≡◌, map}
use Rattle.std.specs.List.{range_with_len}
use Rattle.plan_words.specs.Groups.{all_merged, with_space}
use Rattle.plan_words.proofs.plant.PlantTables.merged_by_spaces.Given as goal

abbrev pub invariant-loop-zone : goal.invariant-loop-zone
invariant-loop-zone l = l.labels.items ≡ all_merged l.fn.labels.items (map (with_space l.self) (range_with_len 0 l.zone))
