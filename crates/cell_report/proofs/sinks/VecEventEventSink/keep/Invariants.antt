use Rattle.std.proofs.Common.{◌≡◌, ◌++◌, replicate}
use Rattle.cell_report.proofs.sinks.VecEventEventSink.keep.Given as goal

abbrev pub invariant-loop : goal.invariant-loop
invariant-loop l = l.self.items ≡ l.initial.self.items ++ replicate l.counter l.event
