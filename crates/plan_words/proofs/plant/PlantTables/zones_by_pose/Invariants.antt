use Rattle.std.proofs.Common.{◌≡◌, filter}
use Rattle.std.specs.List.{range_with_len}
use Rattle.plan_words.specs.Groups.{looks_at}
use Rattle.plan_words.proofs.plant.PlantTables.zones_by_pose.Given as goal

abbrev pub invariant-loop-zone : goal.invariant-loop-zone
invariant-loop-zone l = l.zones.items ≡ filter (looks_at l.self l.pose) (range_with_len 0 l.zone)
