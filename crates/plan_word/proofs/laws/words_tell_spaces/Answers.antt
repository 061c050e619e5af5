use Rattle.std.proofs.Common.{refl}
use Rattle.plan_word.specs.Packed.{packed}
use Rattle.plan_word.specs.Reading.{state_told}
use Rattle.plan_word.proofs.laws.words_tell_spaces.Goals as goal

pub returns-clause-words : goal.returns-clause-words
unfolding packed
returns-clause-words c = record { claimed = refl; given = refl; given_on_word = refl; free = refl; owners = refl; shuttles = refl; codes = refl; spare = refl }

pub returns-clause-states : goal.returns-clause-states
unfolding state_told
returns-clause-states c = record { claimed = refl; given = refl; given_on_told = refl; free = refl }
