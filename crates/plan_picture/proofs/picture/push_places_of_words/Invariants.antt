use Rattle.std.proofs.Common.{◌≡◌, ◌++◌, flat_map, string_bytes}
use Rattle.std.specs.List.{range_with_len}
use Rattle.plan_picture.specs.Pictures as spec
use Rattle.plan_picture.specs.Scenes.{on_word}
use Rattle.plan_picture.proofs.picture.push_places_of_words.Given as goal

abbrev pub invariant-words : goal.invariant-words
invariant-words l =
    string_bytes l.text
    ≡ string_bytes l.initial.text ++ flat_map (λ word. spec.places_part (on_word l.shown word)) (range_with_len 0 l.word)
