use Rattle.plan_workers.proofs.RenewalLaws.{work_permitted}
use Rattle.plan_workers.proofs.laws.work_is_permitted.Goals as goal

pub returns : goal.returns
returns g c = work_permitted g.D.PlanDevices.reads g.D.PlanDevices.drives (g.G.PlanGate.may_answer c.args._gate.now)
