use Rattle.std.proofs.Common.{ℕ, ◌<◌}
use Rattle.plan_words.specs.Group.{HasPlace}
use Rattle.plan_words.specs.Plant.{word_at}
use Rattle.plan_words.proofs.words.Words.place.Given as goal

abbrev pub invariant-loop-word : goal.invariant-loop-word
invariant-loop-word l = (n : ℕ) → n < l.word → ¬ HasPlace (word_at l.self n).group l.place
