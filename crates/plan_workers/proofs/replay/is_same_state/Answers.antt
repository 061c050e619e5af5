use Rattle.std.proofs.Common.{sym, ◌∙◌}
use Rattle.plan_workers.proofs.States.{alike, one_state}
use Rattle.plan_workers.proofs.replay.is_same_state.Goals as goal

pub returns : goal.returns
returns c = (λ yes. one_state _ _ (sym c.eq.ensures ∙ yes), λ e. c.eq.ensures ∙ alike _ _ e)
