use Rattle.cell_report.proofs.Names.{◌≡◌, ℕ, List, [], ◌++◌, length, Noted, IsInTurn, left_of_all, rest_of, IsTrace}
use Rattle.cell_report.proofs.traces.Trace.follow_merged.Given as goal

abbrev pub invariant-loop-run : goal.invariant-loop-run
invariant-loop-run g l =
    (before : List Noted) × (IsInTurn l.initial.left → IsInTurn l.left × (rest_of l.initial.left ≡ before ++ rest_of l.left))
    × (IsInTurn l.left → IsInTurn l.initial.left)
    × ((least : ℕ) → IsTrace (g.K.EventSink.holds l.initial.sink) l.start least [] l.initial.trace → IsTrace (g.K.EventSink.holds l.sink) l.start least before l.trace)

abbrev pub decreases-loop-run : goal.decreases-loop-run
decreases-loop-run g l = length (left_of_all l.left.rests)
