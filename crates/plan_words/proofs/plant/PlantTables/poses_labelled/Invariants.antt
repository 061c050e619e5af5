use Rattle.std.proofs.Common.{◌≡◌, filter, nat_eq}
use Rattle.std.specs.List.{range_with_len, list_any}
use Rattle.plan_words.specs.Groups.{label_for, looks_at, zones_of}
use Rattle.plan_words.proofs.plant.PlantTables.poses_labelled.Given as goal

abbrev pub invariant-loop-pose : goal.invariant-loop-pose
invariant-loop-pose l =
    l.poses.items ≡ filter (λ p. list_any (nat_eq (label_for l.self (zones_of l.self (looks_at l.self p)))) l.groups) (range_with_len 0 l.pose)
