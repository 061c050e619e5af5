use Rattle.std.proofs.Common.{◌≡◌, ◌++◌, flat_map}
use Rattle.std.specs.List.{range_with_len}
use Rattle.plan_picture.specs.Scenes.{keepers_on, names_of_words}
use Rattle.plan_picture.proofs.shown.push_keepers.Given as goal

abbrev pub invariant-words : goal.invariant-words
invariant-words l =
    l.owners.items ≡ l.initial.owners.items ++ flat_map (keepers_on (names_of_words l.plans)) (range_with_len 0 l.word)
