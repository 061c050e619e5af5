use Rattle.std.proofs.Common.{inl, inr}
use Rattle.plan_app.proofs.serve_plant.together_document.Goals as goal

pub together_script-requires-clause-words : goal.together_script-requires-clause-words
together_script-requires-clause-words g c κs within =
    let plant = c.in-Ok.ensures.plant.says.says in
    record { laid_out = plant.laid_out; plans = plant.count; programs = plant.programs.count }

pub returns-in-Ok-clause-well : goal.returns-in-Ok-clause-well
returns-in-Ok-clause-well g c = λ well. (c.in-Ok.plant, c.in-Ok.ensures.plant, c.together_script.ensures.well well)

pub returns-in-Ok-clause-failed : goal.returns-in-Ok-clause-failed
returns-in-Ok-clause-failed g c = λ failed.
    elim (c.together_script.ensures.failed failed) [
      | inl unread ↦ inl unread
      | inr wrote ↦ inr (inr (c.in-Ok.plant, c.in-Ok.ensures.plant, wrote))
    ]
