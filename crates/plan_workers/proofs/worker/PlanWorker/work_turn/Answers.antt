use Rattle.std.proofs.Common.{sym}
use Rattle.plan_workers.proofs.worker.PlanWorker.work_turn.Goals as goal

pub returns-clause-turn : goal.returns-clause-turn
returns-clause-turn g c = rw (sym c.self.view_is) c.turn-taken.ensures.turn
