use Rattle.cell_report.proofs.Names.{ℕ, [], take, IsTrace}
use Rattle.cell_report.proofs.traces.Trace.follow_sorted.Given as goal

abbrev pub invariant-loop-noted : goal.invariant-loop-noted
invariant-loop-noted g l =
    (least : ℕ) → IsTrace (g.K.EventSink.holds l.initial.sink) l.start least [] l.initial.trace
    → IsTrace (g.K.EventSink.holds l.sink) l.start least (take l.noted-index l.sorted) l.trace
