use Rattle.cell_threads.proofs.Names.{refl, sym, subst, ◌∙◌, ArePassesOf, IsEnd, Passes, AreAllFresh, AreReady, SixPasses}
use Rattle.cell_threads.proofs.Assembling.{all_fresh, fresh_six, own_passes, tells_watched, worked_by_fresh}
use Rattle.cell_threads.proofs.six.run_watched.Goals as goal

pub run_in_threads-requires-clause-begins : goal.run_in_threads-requires-clause-begins
run_in_threads-requires-clause-begins g c κs within =
    let i = c.in_ok-interlock.interlock in
    let new = c.in_ok-interlock.ensures in
    let split = c.six_and_watch-passes in
    let fresh = all_fresh i c.in_ok-interlock.passes new.passes in
    record {
      fresh = subst (λ (p : SixPasses). AreAllFresh i p) (sym split.ensures.six) fresh;
      ready =
          subst (λ (q : SixPasses). AreReady g.W1.Worker.is_ready g.W2.Worker.is_ready g.W3.Worker.is_ready g.W4.Worker.is_ready g.W5.Worker.is_ready g.W6.Worker.is_ready c.args.workers q)
          (sym (split.ensures.six ∙ fresh_six i _ fresh)) (c.requires.ready i new.opening);
      fresh_watch = split.ensures.watch ∙ new.passes.watch;
    }

pub close-ended-requires : goal.close-ended-requires
close-ended-requires g c =
    let i = c.in_ok-interlock.interlock in
    let back = c.in-Some in
    let gate = g.G.Gate.may_answer c.args.gate.now in
    let split = c.six_and_watch-passes in
    let done = worked_by_fresh g.W1.Worker.gives_back g.W2.Worker.gives_back g.W3.Worker.gives_back g.W4.Worker.gives_back g.W5.Worker.gives_back g.W6.Worker.gives_back g.H.Watching.watches c.args.workers c.args.watch i c.in_ok-interlock.passes split.result.0 split.result.1 c.args.turns gate back.results back.watched c.in_ok-interlock.ensures.passes split.ensures.six split.ensures.watch back.ensures in
    record {
      own =
          subst (λ (p : Passes). ArePassesOf i p) (sym c.into_parts-journals.ensures.passes)
          (own_passes g.W1.Worker.gives_back g.W2.Worker.gives_back g.W3.Worker.gives_back g.W4.Worker.gives_back g.W5.Worker.gives_back g.W6.Worker.gives_back g.H.Watching.watches c.args.workers c.args.watch i c.args.turns gate back.results done.given back.watched done.watched_so);
    }

pub returns-clause-work : goal.returns-clause-work
returns-clause-work g c =
    let i = c.in_ok-interlock.interlock in
    let new = c.in_ok-interlock.ensures in
    let back = c.in-Some in
    let gate = g.G.Gate.may_answer c.args.gate.now in
    let parts = c.into_parts-journals in
    let split = c.six_and_watch-passes in
    let done = worked_by_fresh g.W1.Worker.gives_back g.W2.Worker.gives_back g.W3.Worker.gives_back g.W4.Worker.gives_back g.W5.Worker.gives_back g.W6.Worker.gives_back g.H.Watching.watches c.args.workers c.args.watch i c.in_ok-interlock.passes split.result.0 split.result.1 c.args.turns gate back.results back.watched new.passes split.ensures.six split.ensures.watch back.ensures in
    let end = c.close-ended.result.state in
    let closed = subst (λ (p : Passes). IsEnd i.opening p end) parts.ensures.passes c.close-ended.ensures.end in
    tells_watched g.W1.Worker.gives_back g.W2.Worker.gives_back g.W3.Worker.gives_back g.W4.Worker.gives_back g.W5.Worker.gives_back g.W6.Worker.gives_back g.H.Watching.watches c.args.workers c.args.watch i c.args.turns gate back.results done.given back.watched done.watched_so
    (record { start = c.args.opening; journals = parts.result.0; end = end; outputs = parts.result.2 }) closed parts.ensures.journals
    c.args.opening c.args.tries new.opening new.limit refl parts.ensures.outputs
