use Rattle.std.proofs.Common.{◌≡◌, filter, nat_eq}
use Rattle.std.specs.List.{range_with_len, list_any}
use Rattle.plan_words.specs.Groups.{label_for, touches, zones_of}
use Rattle.plan_words.proofs.plant.PlantTables.places_labelled.Given as goal

abbrev pub invariant-loop-place : goal.invariant-loop-place
invariant-loop-place l =
    l.places.items ≡ filter (λ p. list_any (nat_eq (label_for l.self (zones_of l.self (touches l.self p)))) l.groups) (range_with_len 0 l.place)
