use Rattle.std.proofs.Common.{sym, ◌∙◌}
use Rattle.cell_report.proofs.States.{states_from, states_tell}
use Rattle.cell_report.proofs.same.is_same_state.Goals as goal

pub returns : goal.returns
returns c = (λ yes. states_from _ _ (sym c.eq.ensures ∙ yes), λ e. c.eq.ensures ∙ states_tell _ _ e)
