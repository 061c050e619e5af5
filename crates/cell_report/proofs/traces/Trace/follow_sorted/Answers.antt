use Rattle.cell_report.proofs.Names.{sym, subst, take_more, take_all, IsTrace}
use Rattle.cell_report.proofs.traces.Trace.follow_sorted.Goals as goal

pub loop-noted-preserved : goal.loop-noted-preserved
loop-noted-preserved g c = λ least is.
    subst (λ l. IsTrace (g.K.EventSink.holds c.take.new.sink) c.args.start.now least l c.take.new.self)
    (sym (take_more c.args.sorted.now c.loop-noted.noted-index _ c.loop-noted-test.true))
    (c.in_ok-take.ensures.trace least _ (c.loop-noted.invariant least is))

pub returns : goal.returns
returns g c = λ least is. rw (take_all c.loop-noted.noted-index c.args.sorted.now c.loop-noted-test.false) at (c.loop-noted.invariant least is)
