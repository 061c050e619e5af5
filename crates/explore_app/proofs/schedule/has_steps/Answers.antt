use Rattle.std.proofs.Common.{sym, ◌∙◌}
use Rattle.explore_app.proofs.Steps.{one_steps}
use Rattle.explore_app.proofs.schedule.has_steps.Goals as goal

pub returns : goal.returns
returns c = λ yes. one_steps _ _ (sym c.eq.ensures ∙ yes)
