use Rattle.std.proofs.Common.{◌≡◌, ◌++◌, map, take, string_bytes}
use Rattle.cell_types.specs.Everything.{all_places}
use Rattle.cell_rules.specs.PlaceSet.{has}
use Rattle.history_app.specs.Scripts.{digit_of}
use Rattle.history_app.proofs.scripts.push_places.Given as goal

abbrev pub invariant-places : goal.invariant-places
invariant-places l = string_bytes l.text ≡ string_bytes l.initial.text ++ map (λ place. digit_of (has l.opening.full place)) (take l.place-index all_places)
