use Rattle.std.proofs.Common.{◌≡◌, map}
use Rattle.std.specs.List.{range_with_len}
use Rattle.plan_words.specs.Groups.{all_merged, looks_at, zones_of}
use Rattle.plan_words.proofs.plant.PlantTables.merged_by_poses.Given as goal

abbrev pub invariant-loop-pose : goal.invariant-loop-pose
invariant-loop-pose l =
    l.labels.items ≡ all_merged l.fn.labels.items (map (λ p. zones_of l.self (looks_at l.self p)) (range_with_len 0 l.pose))
