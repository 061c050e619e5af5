use Rattle.cell_report.proofs.Names.{ℕ, List, ◌++◌, replicate, Noted, IsTrace}
use Rattle.cell_report.proofs.traces.Trace.take_run.Given as goal

abbrev pub invariant-loop-taken : goal.invariant-loop-taken
invariant-loop-taken g l =
    (least : ℕ) → (before : List Noted) → IsTrace (g.K.EventSink.holds l.initial.sink) l.start least before l.initial.self
    → IsTrace (g.K.EventSink.holds l.sink) l.start least (before ++ replicate l.taken l.noted) l.self
