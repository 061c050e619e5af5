use Rattle.std.proofs.Common.{◌≡◌, ◌∙◌, true, false, sym, ap, subst, rules}
use Rattle.plan_c.specs.Given.{IsWordOf, NoState}
use Rattle.plan_c.specs.Turning.{sensed, IsTurn}
use Rattle.plan_c.specs.declared.turn.Turned.{Turned}
use Rattle.plan_controller.specs.Turns.{control}
use Rattle.plan_c.proofs.exports.bagunjoki_plan_turn.Goals as goal

apart : true ≡ false → ⊥
apart e = cc

-- ---- by a plan

pub returns-then-plan-clause-turn : goal.returns-then-plan-clause-turn
returns-then-plan-clause-turn c = λ t s steps stopped opened of has at.
    let a = c.args in
    let x = control a.machine steps a.place.line stopped in
    let here = subst (λ u. IsWordOf u a.word s) (sym opened.table) of in
    let turn = c.turn_by.ensures.turn s steps stopped here has at in
    let by_sensors = subst (λ o. IsTurn a.plan.now.compiled.table s a.word x o c.turn_by.result) c.sensors_if-sensors.ensures turn in
    subst (λ u. IsTurn u s a.word x (sensed a.read a.sensors) c.turn_by.result) opened.table by_sensors

pub returns-then-plan-clause-stopped : goal.returns-then-plan-clause-stopped
returns-then-plan-clause-stopped c = c.turn_by.ensures.stopped

pub returns-then-plan-clause-unread : goal.returns-then-plan-clause-unread
returns-then-plan-clause-unread c = λ unread.
    c.turn_by.ensures.unread (c.sensors_if-sensors.ensures ∙ ap (λ b. sensed b c.args.sensors) unread)

pub returns-then-plan-clause-no_step : goal.returns-then-plan-clause-no_step
returns-then-plan-clause-no_step c = λ t s opened of none.
    c.turn_by.ensures.no_step s (subst (λ u. IsWordOf u c.args.word s) (sym opened.table) of) none

pub returns-then-plan-clause-no_state : goal.returns-then-plan-clause-no_state
returns-then-plan-clause-no_state c = λ t opened none.
    c.turn_by.ensures.no_state (subst (λ u. NoState u c.args.word) (sym opened.table) none)

pub returns-then-plan-clause-no_plan : goal.returns-then-plan-clause-no_plan
returns-then-plan-clause-no_plan c = λ closed.
    let yes : c.args.plan.now.is_plan ≡ true = search rules in
    absurd (apart (sym yes ∙ closed.is_no_plan))

-- ---- without one

pub returns-else-plan-clause-turn : goal.returns-else-plan-clause-turn
returns-else-plan-clause-turn c = λ t s steps stopped opened of has at.
    let no : c.args.plan.now.is_plan ≡ false = search rules in
    absurd (apart (sym opened.is_plan ∙ no))

pub returns-else-plan-clause-stopped : goal.returns-else-plan-clause-stopped
returns-else-plan-clause-stopped c = λ stopped.
    let is = c.resting.ensures in
    (ap (λ (x : Turned). x.motors) is, ap (λ (x : Turned). x.word) is, ap (λ (x : Turned). x.place) is)

pub returns-else-plan-clause-unread : goal.returns-else-plan-clause-unread
returns-else-plan-clause-unread c = λ unread.
    let is = c.resting.ensures in
    (ap (λ (x : Turned). x.motors) is, ap (λ (x : Turned). x.word) is, ap (λ (x : Turned). x.place) is)

pub returns-else-plan-clause-no_step : goal.returns-else-plan-clause-no_step
returns-else-plan-clause-no_step c = λ t s opened of none.
    let no : c.args.plan.now.is_plan ≡ false = search rules in
    absurd (apart (sym opened.is_plan ∙ no))

pub returns-else-plan-clause-no_state : goal.returns-else-plan-clause-no_state
returns-else-plan-clause-no_state c = λ t opened none.
    let no : c.args.plan.now.is_plan ≡ false = search rules in
    absurd (apart (sym opened.is_plan ∙ no))

pub returns-else-plan-clause-no_plan : goal.returns-else-plan-clause-no_plan
returns-else-plan-clause-no_plan c = λ closed. c.resting.ensures
