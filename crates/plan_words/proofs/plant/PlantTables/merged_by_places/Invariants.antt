use Rattle.std.proofs.Common.{◌≡◌, map}
use Rattle.std.specs.List.{range_with_len}
use Rattle.plan_words.specs.Groups.{all_merged, touches, zones_of}
use Rattle.plan_words.proofs.plant.PlantTables.merged_by_places.Given as goal

abbrev pub invariant-loop-place : goal.invariant-loop-place
invariant-loop-place l =
    l.labels.items ≡ all_merged l.fn.labels.items (map (λ p. zones_of l.self (touches l.self p)) (range_with_len 0 l.place))
