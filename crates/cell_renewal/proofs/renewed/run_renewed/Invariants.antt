use Rattle.cell_renewal.proofs.Names.{ComesBy, TakesRound}
use Rattle.cell_threads.specs.Six.{AreReadyAt}
use Rattle.cell_renewal.proofs.renewed.run_renewed.Given as goal

abbrev pub invariant-rounds : goal.invariant-rounds
invariant-rounds g l = record {
  come : ComesBy (TakesRound g.W1.Worker.gives_back g.W2.Worker.gives_back g.W3.Worker.gives_back g.W4.Worker.gives_back g.W5.Worker.gives_back g.W6.Worker.gives_back
      g.H.Watching.watches g.S.RoundSink.takes l.fn.renewal.tries l.fn.renewal.turns (g.G.Gate.may_answer l.fn.gate) g.W1.RenewedWorker.ended g.W2.RenewedWorker.ended g.W3.RenewedWorker.ended g.W4.RenewedWorker.ended g.W5.RenewedWorker.ended g.W6.RenewedWorker.ended
      g.W1.RenewedWorker.goes_on g.W2.RenewedWorker.goes_on g.W3.RenewedWorker.goes_on g.W4.RenewedWorker.goes_on g.W5.RenewedWorker.goes_on g.W6.RenewedWorker.goes_on l.fn.renewal.mark)
      (record { workers = l.fn.workers; watch = l.fn.watch; opening = l.fn.opening; sink = l.fn.sink }) (record { workers = l.workers; watch = l.watch; opening = l.opening; sink = l.sink });
  ready : AreReadyAt g.W1.Worker.is_ready g.W2.Worker.is_ready g.W3.Worker.is_ready g.W4.Worker.is_ready g.W5.Worker.is_ready g.W6.Worker.is_ready l.opening l.workers;
}
