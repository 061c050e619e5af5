use Rattle.cell_renewal.proofs.Names.{sym, subst, comes_on, AreAllFine, EndsRound, IsTurnedOver, TakesRound}
use Rattle.cell_renewal.proofs.renewed.run_renewed.Goals as goal

pub rounds-preserved : goal.rounds-preserved
rounds-preserved g c =
    let k = c.in_ok-turned.ensures in
    let on = subst (IsTurnedOver g.W1.Worker.is_ready g.W2.Worker.is_ready g.W3.Worker.is_ready g.W4.Worker.is_ready g.W5.Worker.is_ready g.W6.Worker.is_ready
    g.W1.RenewedWorker.ended g.W2.RenewedWorker.ended g.W3.RenewedWorker.ended g.W4.RenewedWorker.ended g.W5.RenewedWorker.ended g.W6.RenewedWorker.ended
    g.W1.RenewedWorker.goes_on g.W2.RenewedWorker.goes_on g.W3.RenewedWorker.goes_on g.W4.RenewedWorker.goes_on g.W5.RenewedWorker.goes_on g.W6.RenewedWorker.goes_on c.args.renewal.mark k.0) c.in-GoesOn.is k.2 in
    record {
      come = comes_on (TakesRound g.W1.Worker.gives_back g.W2.Worker.gives_back g.W3.Worker.gives_back g.W4.Worker.gives_back g.W5.Worker.gives_back g.W6.Worker.gives_back
          g.H.Watching.watches g.S.RoundSink.takes c.args.renewal.tries c.args.renewal.turns (g.G.Gate.may_answer c.args.gate.now) g.W1.RenewedWorker.ended g.W2.RenewedWorker.ended g.W3.RenewedWorker.ended g.W4.RenewedWorker.ended g.W5.RenewedWorker.ended g.W6.RenewedWorker.ended
          g.W1.RenewedWorker.goes_on g.W2.RenewedWorker.goes_on g.W3.RenewedWorker.goes_on g.W4.RenewedWorker.goes_on g.W5.RenewedWorker.goes_on g.W6.RenewedWorker.goes_on c.args.renewal.mark)
          _ (record { workers = c.rounds.workers; watch = c.rounds.watch; opening = c.rounds.opening; sink = c.rounds.sink }) _ c.rounds.invariant.come
          (record { left = k.0; ends = k.1; fine = on.fine; opens = on.opens; goes_on = on.goes_on; watch_is = on.watch_is });
      ready = on.ready;
    }

pub returns-in-Ends : goal.returns-in-Ends
returns-in-Ends g c =
    let k = c.in_ok-turned.ensures in
    let over = subst (IsTurnedOver g.W1.Worker.is_ready g.W2.Worker.is_ready g.W3.Worker.is_ready g.W4.Worker.is_ready g.W5.Worker.is_ready g.W6.Worker.is_ready
    g.W1.RenewedWorker.ended g.W2.RenewedWorker.ended g.W3.RenewedWorker.ended g.W4.RenewedWorker.ended g.W5.RenewedWorker.ended g.W6.RenewedWorker.ended
    g.W1.RenewedWorker.goes_on g.W2.RenewedWorker.goes_on g.W3.RenewedWorker.goes_on g.W4.RenewedWorker.goes_on g.W5.RenewedWorker.goes_on g.W6.RenewedWorker.goes_on c.args.renewal.mark k.0) c.in-Ends.is k.2 in
    record {
      rounds = record {
        last = record { workers = c.rounds.workers; watch = c.rounds.watch; opening = c.rounds.opening; sink = c.rounds.sink };
        come = c.rounds.invariant.come;
        ends = subst (λ l. EndsRound g.W1.Worker.gives_back g.W2.Worker.gives_back g.W3.Worker.gives_back g.W4.Worker.gives_back g.W5.Worker.gives_back g.W6.Worker.gives_back
            g.H.Watching.watches g.S.RoundSink.takes c.args.renewal.tries c.args.renewal.turns (g.G.Gate.may_answer c.args.gate.now)
            (record { workers = c.rounds.workers; watch = c.rounds.watch; opening = c.rounds.opening; sink = c.rounds.sink }) l c.take_round.new.sink) (sym over.0) k.1;
        not_all_fine = subst (λ l. ¬ AreAllFine g.W1.RenewedWorker.ended g.W2.RenewedWorker.ended g.W3.RenewedWorker.ended g.W4.RenewedWorker.ended g.W5.RenewedWorker.ended g.W6.RenewedWorker.ended l.outputs) (sym over.0) over.1;
      };
    }

pub take_round-requires-clause-may_take : goal.take_round-requires-clause-may_take
take_round-requires-clause-may_take g c κs within =
    c.requires.may_take (record { workers = c.rounds.workers; watch = c.rounds.watch; opening = c.rounds.opening; sink = c.rounds.sink }) c.rounds.invariant.come
