use Rattle.std.proofs.Common.{◌≡◌, filter, nat_eq}
use Rattle.std.specs.List.{range_with_len, list_any}
use Rattle.plan_words.specs.Groups.{label_of}
use Rattle.plan_words.proofs.plant.PlantTables.zones_labelled.Given as goal

abbrev pub invariant-loop-zone : goal.invariant-loop-zone
invariant-loop-zone l = l.zones.items ≡ filter (λ z. list_any (nat_eq (label_of l.labels z)) l.groups) (range_with_len 0 l.zone)
