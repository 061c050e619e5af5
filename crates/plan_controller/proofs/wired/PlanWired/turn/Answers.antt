use Rattle.std.proofs.Common.{sym}
use Rattle.plan_controller.proofs.wired.PlanWired.turn.Goals as goal

pub returns-clause-turn : goal.returns-clause-turn
returns-clause-turn g c = rw (sym c.self.view_is) c.turn.ensures.turn
