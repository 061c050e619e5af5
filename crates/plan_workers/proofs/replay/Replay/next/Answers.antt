use Rattle.plan_workers.proofs.Reading.{other_next, others_then_done}
use Rattle.plan_workers.proofs.replay.Replay.next.Goals as goal

pub returns-in-None : goal.returns-in-None
returns-in-None c = others_then_done _ _ c.first_that_follows-in-None.result c.in-None.ensures c.first_that_follows-in-None.ensures

pub returns-in-Some : goal.returns-in-Some
returns-in-Some c = other_next _ _ _ _ c.in-Some.ensures
