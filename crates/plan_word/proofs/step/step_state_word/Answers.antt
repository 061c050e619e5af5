use Rattle.std.proofs.Common.{◌≡◌, ◌≢◌, ℕ, refl, sym, ap, ap₂, ◌∙◌}
use Rattle.plan_types.specs.declared.call.Call.{Call}
use Rattle.plan_types.specs.declared.answer.Answer.{Answer}
use Rattle.plan_types.specs.declared.answer.Answer.TheVariants.{Done, Shown, Refused}
use Rattle.plan_types.specs.Table.{PlanTable}
use Rattle.plan_rules.specs.declared.state.State.{State}
use Rattle.plan_rules.specs.Reply.{next, next_by}
use Rattle.plan_word.specs.Packed.{packed}
use Rattle.plan_word.proofs.step.step_state_word.Goals as goal

unchanged : (t : PlanTable) (s : State) (m : ℕ) (c : Call) (a : Answer) → a ≢ Done → next_by a t s m c ≡ s
unchanged t s m c Done n = absurd (n refl)
unchanged t s m c (Shown o f p) n = refl
unchanged t s m c (Refused r) n = refl

pub returns-in_default : goal.returns-in_default
returns-in_default c = λ s k e.
    let t = c.args.plan.now in
    let m = c.args.machine in
    let is = c.answer_word-answer.ensures.state s k e in
    let left : next t s m c.args.call ≡ s =
    ap (λ (a : Answer). next_by a t s m c.args.call) (sym is) ∙ unchanged t s m c.args.call c.answer_word-answer.result c.in_default.not-Done in
    ap₂ (λ (a : Answer) (w : ℕ). (a, w)) is (sym (ap (packed t) left ∙ e))

pub returns-in-Some : goal.returns-in-Some
returns-in-Some c = λ s k e. let is = c.in-Some.ensures.some s k e in cc
