use Rattle.std.proofs.Common.{◌≡◌, length}
use Rattle.plan_workers.specs.PlantTurning.{TakesPlantTurn}
use Rattle.plan_workers.specs.PlantTurns.{IsSameProgram, OnEachWord}
use Rattle.plan_workers.specs.Turning.{HasComeBy}
use Rattle.plan_workers.proofs.plant_worker.PlantWorker.work.Given as goal

abbrev pub invariant-loop-turn : goal.invariant-loop-turn
invariant-loop-turn g l = record {
  come : HasComeBy (TakesPlantTurn (record { table = g.L.PlanLine.table; machine = g.L.PlanLine.machine; opening = g.L.PlanLine.opening; seen = g.L.PlanLine.seen; asks = g.L.PlanLine.asks; reads = g.D.PlanDevices.reads; drives = g.D.PlanDevices.drives }))
      (g.G.PlanGate.may_answer l.fn.gate l.fn.self.control.machine) l.fn.self l.self l.turn;
  program : IsSameProgram l.fn.self.control l.self.control;
  each_word : length l.self.lines ≡ length l.fn.self.lines;
  own : OnEachWord l.fn.self.lines l.self.lines (λ _ before now. g.L.PlanLine.machine now ≡ g.L.PlanLine.machine before);
  table : OnEachWord l.fn.self.lines l.self.lines (λ _ before now. g.L.PlanLine.table now ≡ g.L.PlanLine.table before);
  opening : OnEachWord l.fn.self.lines l.self.lines (λ _ before now. g.L.PlanLine.opening now ≡ g.L.PlanLine.opening before);
}
