use Rattle.std.proofs.Common.{◌≡◌, filter}
use Rattle.std.specs.List.{range_with_len}
use Rattle.plan_words.specs.Groups.{touches}
use Rattle.plan_words.proofs.plant.PlantTables.zones_by_place.Given as goal

abbrev pub invariant-loop-zone : goal.invariant-loop-zone
invariant-loop-zone l = l.zones.items ≡ filter (touches l.self l.place) (range_with_len 0 l.zone)
