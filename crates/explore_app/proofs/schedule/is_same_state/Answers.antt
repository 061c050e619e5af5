use Rattle.std.proofs.Common.{sym, ◌∙◌}
use Rattle.explore_app.proofs.States.{states_from}
use Rattle.explore_app.proofs.schedule.is_same_state.Goals as goal

pub returns : goal.returns
returns c = λ yes. states_from _ _ (sym c.eq.ensures ∙ yes)
