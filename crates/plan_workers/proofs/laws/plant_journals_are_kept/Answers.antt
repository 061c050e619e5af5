use Rattle.plan_workers.proofs.PlantClosing.{journals_kept}
use Rattle.plan_workers.proofs.laws.plant_journals_are_kept.Goals as goal

pub returns : goal.returns
returns g c = journals_kept g.D.PlanDevices.reads g.D.PlanDevices.drives (g.G.PlanGate.may_answer c.args._gate.now)
