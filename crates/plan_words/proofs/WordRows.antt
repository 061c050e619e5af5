-- The words of literal plants.
use Rattle.std.proofs.Common.{◌≡◌, [], ◌∷◌, ◌++◌, refl, ◌∙◌}
use Rattle.std.specs.List.{range_with_len}
use Rattle.plan_words.specs.Least.{twelve_pairs}
use Rattle.plan_words.specs.FirstFit.{forty_gates, WordsAreRight}
use Rattle.plan_words.proofs.Known.{label_in, grouped, room_in, put_in, sharers_are}

twelve_put : put_in twelve_pairs (range_with_len 0 12) (range_with_len 0 13) [] ≡ (0 ∷ 1 ∷ 2 ∷ 3 ∷ 4 ∷ 5 ∷ 6 ∷ 7 ∷ 12 ∷ []) ∷ (8 ∷ 9 ∷ 10 ∷ 11 ∷ []) ∷ []
unfolding label_in grouped room_in put_in
twelve_put = refl

forty_put : put_in forty_gates (range_with_len 0 40) (range_with_len 0 41) [] ≡ (range_with_len 0 10 ++ 40 ∷ []) ∷ range_with_len 10 10 ∷ range_with_len 20 10 ∷ range_with_len 30 10 ∷ []
unfolding label_in grouped room_in put_in
forty_put = refl

pub words_are_right : WordsAreRight
words_are_right = record {
  twelve = sharers_are twelve_pairs (range_with_len 0 12) (range_with_len 0 13) refl refl ∙ twelve_put;
  forty = sharers_are forty_gates (range_with_len 0 40) (range_with_len 0 41) refl refl ∙ forty_put;
}
