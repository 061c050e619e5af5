use Rattle.std.proofs.Common.{ap₂, sym, ◌∙◌, refl}
use Rattle.plan_word.specs.declared.layout.Field.TheVariants.{Stamp}
use Rattle.plan_word.specs.Layout.{Counts}
use Rattle.plan_word.specs.Reading.{told}
use Rattle.plan_word.proofs.lemmas.LaidOut.{held_back}
use Rattle.plan_word.proofs.word.stamp_of.Goals as goal

pub returns-clause-stamp : goal.returns-clause-stamp
returns-clause-stamp c = λ t s layout k e.
    c.value_in.ensures.value
    ∙ ap₂ (λ (n : Counts) w. told n w Stamp) layout (sym e)
    ∙ held_back t s k.sound.stamp_in_range Stamp refl
