use Rattle.plan_workers.specs.Renewing.{AreReadyAt, HasRenewed, round_moment}
use Rattle.plan_workers.proofs.renewed.work_renewed.Given as goal

abbrev pub invariant-loop-round : goal.invariant-loop-round
invariant-loop-round g l = record {
  rounds : HasRenewed g.D.PlanDevices.reads g.D.PlanDevices.drives g.S.PlanRoundSink.takes l.fn.plan l.fn.renewal.tries l.fn.renewal.turns (g.G.PlanGate.may_answer l.fn.gate) l._round
      (round_moment l.fn.begun.machines.items l.fn.begun.state l.fn.sink) (round_moment l.pause.machines.items l.pause.state l.sink);
  ready : AreReadyAt l.fn.plan l.pause.state l.pause.machines.items;
}
