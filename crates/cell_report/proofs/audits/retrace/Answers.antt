use Rattle.cell_report.proofs.Sound.{retraces}
use Rattle.cell_report.proofs.audits.retrace.Goals as goal
use Rattle.cell_report.proofs.audits.retrace.Goals.{in-Some-end+else-not-is_same_state, in_default-end}

pub returns-clause-ok : goal.returns-clause-ok
returns-clause-ok g c =
    let t = c.in_ok-trace.ensures in
    retraces _ _ _ _ c.max-least.result t.ordered c.in_ok-trace.trace.state t.stamps (rw c.in_default.is at t.is.fit)
    (elim c.match-end.branch [
      | in-Some-end+else-not-is_same_state w ↦ rw w.in-Some-end.is (w.is_same_state.ensures.0 w.if-not-is_same_state.false)
      | in_default-end w ↦ rw w.in_default-end.is tt
    ])
