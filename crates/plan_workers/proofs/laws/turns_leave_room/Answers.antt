use Rattle.plan_workers.proofs.Room.{turns_leave_room}
use Rattle.plan_workers.proofs.laws.turns_leave_room.Goals as goal

pub returns : goal.returns
returns g c = turns_leave_room g.D.PlanDevices.reads g.D.PlanDevices.drives g.S.PlanRoundSink.takes (g.G.PlanGate.may_answer c.args._gate.now)
