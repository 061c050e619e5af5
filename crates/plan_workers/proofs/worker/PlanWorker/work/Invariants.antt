use Rattle.std.proofs.Common.{◌≡◌}
use Rattle.plan_workers.specs.Turning.{HasCome}
use Rattle.plan_workers.proofs.worker.PlanWorker.work.Given as goal

abbrev pub invariant-loop-turn : goal.invariant-loop-turn
invariant-loop-turn g l = record {
  come : HasCome (record { table = g.L.PlanLine.table; machine = g.L.PlanLine.machine; opening = g.L.PlanLine.opening; seen = g.L.PlanLine.seen; asks = g.L.PlanLine.asks; reads = g.D.PlanDevices.reads; drives = g.D.PlanDevices.drives })
      (g.G.PlanGate.may_answer l.fn.gate (g.L.PlanLine.machine l.fn.self.line)) l.fn.self l.self l.turn;
  own : g.L.PlanLine.machine l.self.line ≡ g.L.PlanLine.machine l.fn.self.line;
  table : g.L.PlanLine.table l.self.line ≡ g.L.PlanLine.table l.fn.self.line;
  opening : g.L.PlanLine.opening l.self.line ≡ g.L.PlanLine.opening l.fn.self.line;
}
