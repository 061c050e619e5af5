use Rattle.plan_workers.proofs.Explaining.{rounds_explained}
use Rattle.plan_workers.proofs.laws.rounds_are_explained.Goals as goal

pub returns : goal.returns
returns g c = rounds_explained g.D.PlanDevices.reads g.D.PlanDevices.drives g.S.PlanRoundSink.takes (g.G.PlanGate.may_answer c.args._gate.now)
