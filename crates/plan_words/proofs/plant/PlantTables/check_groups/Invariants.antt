use Rattle.std.proofs.Common.{ℕ, ◌<◌, [], ◌∷◌, get_or}
use Rattle.plan_types.specs.Plan.{IsPlan}
use Rattle.plan_words.specs.Group.{past}
use Rattle.plan_words.specs.Plant.{shared_word}
use Rattle.plan_words.proofs.plant.PlantTables.check_groups.Given as goal

abbrev pub invariant-loop-label : goal.invariant-loop-label
invariant-loop-label l = (n : ℕ) → n < l.label-index → IsPlan (shared_word l.self (get_or l.groups n past ∷ [])).table
