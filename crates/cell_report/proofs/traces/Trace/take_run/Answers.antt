use Rattle.cell_report.proofs.Names.{◌-◌, arith, noted_in_turn}
use Rattle.cell_report.proofs.Traced.{told_rest}
use Rattle.cell_report.proofs.traces.Trace.take_run.Goals as goal

pub returns-then-branch : goal.returns-then-branch
returns-then-branch g c =
    let run = c.args.run.now in
    let n = c.loop-taken.taken in
    told_rest (g.K.EventSink.holds c.args.sink.now) (g.K.EventSink.holds c.take.new.sink) (g.K.EventSink.holds c.keep.new.self) c.args.start.now c.args.self.now (noted_in_turn run.machine run.entry.now) n (run.count - n - 1) run.count c.take.new.self c.keep.result
    (λ least before is. c.in_ok-take.ensures.trace least _ (c.loop-taken.invariant least before is))
    (c.in_ok-take.ensures.repeats c.if-branch.true) (omega (arith, c.loop-taken-test.true)) c.keep.ensures
