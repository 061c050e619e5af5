use Rattle.cell_report.proofs.Names.{◌++◌, sym, ap, subst, ◌∙◌, append-nil, append_assoc, in_order, run_of, left_of_all, IsMerged, IsInTurn, IsTrace}
use Rattle.cell_report.proofs.NextLeast.{none_rise}
use Rattle.cell_report.proofs.traces.Trace.follow_merged.Goals as goal

pub loop-run-preserved : goal.loop-run-preserved
loop-run-preserved g c =
    let old = c.loop-run.invariant in
    let m : IsMerged c.loop-run.left.rests c.next_run.new.self.rests c.in-Some.run' = c.in-Some.ensures in (
      old.0 ++ run_of c.in-Some.run',
      λ up. let p = old.1 up in (m.falls p.0, p.1 ∙ (ap (λ l. old.0 ++ l) (m.in_order p.0) ∙ sym (append_assoc old.0 (run_of c.in-Some.run') (in_order (left_of_all c.next_run.new.self.rests))))),
      λ up. old.2 (m.rises c.if-not-run.false up),
      λ least is. c.in_ok-take_run.ensures least old.0 (old.3 least is),
    )

pub returns : goal.returns
returns g c = λ least is.
    let old = c.loop-run.invariant in
    let up : IsInTurn c.new-left.result = old.2 (none_rise c.loop-run.left.rests c.in_default.ensures) in
    let whole = sym (c.new-left.ensures up) ∙ ((old.1 up).1 ∙ (ap (λ l. old.0 ++ in_order l) c.in_default.ensures ∙ append-nil old.0)) in
    subst (λ l. IsTrace (g.K.EventSink.holds c.loop-run.sink) c.args.start.now least l c.loop-run.trace) (sym whole) (old.3 least is)
