use Rattle.cell_report.proofs.Names.{◌∙◌, ap, sym, append-nil, Trace}
use Rattle.cell_report.proofs.Traced.{IsStamped, stamped, fit_more, fit_stays, none_from}
use Rattle.cell_report.proofs.traces.Trace.take.Goals as goal
use Rattle.cell_report.proofs.traces.Trace.take.Goals.{then-is_done+in_ok-push, else-is_done}

pub returns-then-is_some-clause-trace : goal.returns-then-is_some-clause-trace
returns-then-is_some-clause-trace g c = λ least before old.
    let s : IsStamped (g.K.EventSink.holds c.args.sink.now) c.args.start.now least before c.args.noted.now c.if-is_done.self = elim c.if-is_done.branch [
      | then-is_done+in_ok-push w ↦ stamped _ c.args.start.now least before c.args.noted.now c.args.self.now c.if-is_done.self old (rw (sym c.is_done-is_done.ensures ∙ w.if-is_done.true) (ap (λ (t : Trace). t.stamps.items) w.self-is ∙ w.in_ok-push.ensures.items)) (ap (λ (t : Trace). t.top) w.self-is ∙ c.max-self.ensures) (ap (λ (t : Trace). t.misfit) w.self-is) (ap (λ (t : Trace). t.state) w.self-is)
      | else-is_done w ↦ stamped _ c.args.start.now least before c.args.noted.now c.args.self.now c.if-is_done.self old (rw (sym c.is_done-is_done.ensures ∙ w.if-is_done.false) (ap (λ (t : Trace). t.stamps.items) w.self-is ∙ sym (append-nil _))) (ap (λ (t : Trace). t.top) w.self-is ∙ c.max-self.ensures) (ap (λ (t : Trace). t.misfit) w.self-is) (ap (λ (t : Trace). t.state) w.self-is)
    ] in
    record {
      stamps = s.stamps;
      top = s.top;
      fit = fit_stays _ c.args.start.now before c.args.noted.now c.if-is_done.self.misfit c.if-is_done.self.state (sym c.is_some.ensures ∙ c.if-is_some.true) s.fit;
    }

pub returns-clause-trace : goal.returns-clause-trace
returns-clause-trace g c = λ least before old.
    let s : IsStamped (g.K.EventSink.holds c.args.sink.now) c.args.start.now least before c.args.noted.now c.if-is_done.self = elim c.if-is_done.branch [
      | then-is_done+in_ok-push w ↦ stamped _ c.args.start.now least before c.args.noted.now c.args.self.now c.if-is_done.self old (rw (sym c.is_done-is_done.ensures ∙ w.if-is_done.true) (ap (λ (t : Trace). t.stamps.items) w.self-is ∙ w.in_ok-push.ensures.items)) (ap (λ (t : Trace). t.top) w.self-is ∙ c.max-self.ensures) (ap (λ (t : Trace). t.misfit) w.self-is) (ap (λ (t : Trace). t.state) w.self-is)
      | else-is_done w ↦ stamped _ c.args.start.now least before c.args.noted.now c.args.self.now c.if-is_done.self old (rw (sym c.is_done-is_done.ensures ∙ w.if-is_done.false) (ap (λ (t : Trace). t.stamps.items) w.self-is ∙ sym (append-nil _))) (ap (λ (t : Trace). t.top) w.self-is ∙ c.max-self.ensures) (ap (λ (t : Trace). t.misfit) w.self-is) (ap (λ (t : Trace). t.state) w.self-is)
    ] in
    record {
      stamps = s.stamps;
      top = s.top;
      fit = fit_more _ _ c.args.start.now before c.args.noted.now c.if-is_done.self.misfit c.if-is_done.self.state _ (none_from c.if-is_done.self.misfit (sym c.is_some.ensures ∙ c.if-is_some.false)) s.fit
          ((c.fits.ensures c.if-is_done.self.state c.apply-answer.ensures.answer).0 c.if-not-fits.false) c.in_ok-keep.ensures c.apply-answer.ensures.next;
    }
