use Rattle.std.proofs.Common.{◌≡◌, ◌≢◌, subst, rules}
use Rattle.plan_rules.specs.declared.state.State.{State}
use Rattle.plan_word.specs.OfPlan.{IsOfPlan}
use Rattle.plan_word.specs.Packed.{packed}
use Rattle.plan_c.proofs.turn.is_state.Goals as goal

pub returns-in-Some-clause-state : goal.returns-in-Some-clause-state
returns-in-Some-clause-state c = λ yes.
    let s = c.in-Some.field-0 in
    let word = c.args.word in
    let is = subst (λ t. IsOfPlan t s × (packed t s ≡ word)) c.plan.ensures ((c.unpack.ensures.some s).0 c.in-Some.is) in
    (s, record { state = is.0; word_is = is.1 })

pub returns-in-None-clause-no_state : goal.returns-in-None-clause-no_state
returns-in-None-clause-no_state c = λ no s of.
    subst (λ t. (s : State) → IsOfPlan t s → packed t s ≢ c.args.word) c.plan.ensures (c.unpack.ensures.none.0 (search rules)) s of.state of.word_is
