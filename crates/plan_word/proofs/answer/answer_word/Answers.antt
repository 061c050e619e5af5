use Rattle.std.proofs.Common.{sym, ap, ◌∙◌}
use Rattle.plan_rules.specs.declared.state.State.{State}
use Rattle.plan_rules.specs.Reply.{reply}
use Rattle.plan_word.specs.Reading.{state_told}
use Rattle.plan_word.proofs.lemmas.RoundTrip.{told_back}
use Rattle.plan_word.proofs.answer.answer_word.Goals as goal

pub returns-clause-state : goal.returns-clause-state
returns-clause-state c = λ s k e.
    let t = c.args.plan.now in
    c.answer_told.ensures ∙ ap (λ (x : State). reply t x c.args.machine c.args.call) (ap (state_told t) (sym e) ∙ told_back t s k)
