use Rattle.std.proofs.Common.{◌≡◌, ◌∙◌, IsTrue, false, None, sym, rules}
use Rattle.plan_c.proofs.Turning.{none_some}
use Rattle.plan_c.proofs.turn.turn_by.Goals as goal

-- ---- no state

pub returns-then-not-is_state-clause-turn : goal.returns-then-not-is_state-clause-turn
returns-then-not-is_state-clause-turn c = λ s steps stopped of has at.
    let none : c.is_state.result ≡ false = search rules in
    absurd (c.is_state.ensures.no_state none s of)

pub returns-then-not-is_state-clause-no_step : goal.returns-then-not-is_state-clause-no_step
returns-then-not-is_state-clause-no_step c = λ s of no.
    let none : c.is_state.result ≡ false = search rules in
    absurd (c.is_state.ensures.no_state none s of)

-- ---- no step

pub returns-in_default-clause-turn : goal.returns-in_default-clause-turn
returns-in_default-clause-turn c = λ s steps stopped of has at.
    let none : c.step_at.result ≡ None = search rules in
    absurd (none_some has.step (sym none ∙ c.step_at.ensures.step steps has))

pub returns-in_default-clause-no_state : goal.returns-in_default-clause-no_state
returns-in_default-clause-no_state c = λ no.
    let yes : IsTrue c.is_state.result = search rules in
    let is = c.is_state.ensures.state yes in
    absurd (no is.0 is.1)

-- ---- a turn

pub returns-clause-turn : goal.returns-clause-turn
returns-clause-turn c = λ s steps stopped of has at.
    let line = has.at_line ∙ (sym (c.step_at.ensures.step steps has) ∙ c.in-Some.is) in
    c.turn_at.ensures.turn s steps stopped of (sym has.as_many) line at

pub returns-clause-no_state : goal.returns-clause-no_state
returns-clause-no_state c = λ no.
    let yes : IsTrue c.is_state.result = search rules in
    let is = c.is_state.ensures.state yes in
    absurd (no is.0 is.1)

pub returns-clause-no_step : goal.returns-clause-no_step
returns-clause-no_step c = λ s of no.
    absurd (none_some c.in-Some.step (sym (c.step_at.ensures.no_step no) ∙ c.in-Some.is))
