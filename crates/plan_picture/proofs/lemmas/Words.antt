-- The words of a plant.
use Rattle.std.proofs.Common.{◌≡◌, ◌<◌, ℕ, List, get_or, length}
use Rattle.std.proofs.lemmas.List.{get_or-map}
use Rattle.plan_document.specs.declared.resolving.ProgrammedPlan.{ProgrammedPlan}
use Rattle.plan_picture.specs.Scenes.{names_of_words, no_word, word_in}

pub word_is : (plans : List ProgrammedPlan) (w : ℕ) (none : ProgrammedPlan) → w < length plans
    → word_in (names_of_words plans) w ≡ (get_or plans w none).named
word_is plans w none l = get_or-map (λ (plan : ProgrammedPlan). plan.named) plans w none no_word l
