use Rattle.cell_report.proofs.Names.{◌≡◌, ◌++◌, [], ◌∷◌, ap, arith, ◌∙◌, append_assoc, replicate_more, event_by}
use Rattle.cell_report.proofs.sinks.VecEventEventSink.keep.Goals as goal

pub loop-preserved : goal.loop-preserved
loop-preserved c =
    let old = c.args.self.now.items in
    c.in_ok-push.ensures.items ∙ ap (λ events. events ++ event_by c.args.machine c.args.entry.now ∷ []) c.loop.invariant ∙ append_assoc old _ _ ∙ ap (λ events. old ++ events) (replicate_more c.loop.counter _)

pub returns : goal.returns
returns c = λ held is.
    let all : c.loop.counter ≡ c.args.count = omega arith in
    rw (all, is) at c.loop.invariant
