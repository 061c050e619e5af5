use Rattle.std.proofs.Common.{ℕ, List, [], ◌∷◌, map, refl, sym, ap, ◌∙◌, subst}
use Rattle.plan_types.specs.declared.answer.Event.{Event}
use Rattle.plan_types.specs.Table.{PlanTable}
use Rattle.plan_rules.specs.declared.state.State.{State}
use Rattle.word_interlock.specs.declared.views.ActorView.{ActorView}
use Rattle.word_interlock.specs.Rule.{new_view, but_first}
use Rattle.word_interlock.specs.Bunches.{IsNext}
use Rattle.plan_interlock.specs.declared.rules.PlanRules.{PlanRules}
use Rattle.plan_interlock.specs.Book.{callers_of}
use Rattle.plan_interlock.proofs.examples.press.Goals as goal

abbrev View : Type 0
View = ActorView PlanRules State ℕ Event

abbrev Views : Type 0
Views = List View

-- the first of several, if there is one
abbrev first_of : View → Views → View
first_of v [] = v
first_of v (p ∷ rest) = p

pub take_pass-loader-requires-clause-next : goal.take_pass-loader-requires-clause-next
take_pass-loader-requires-clause-next c =
    let i = c.in-Ok-new-2.interlock in
    let plan_is = c.new-rules.ensures ∙ (c.in-Ok-new.ensures.plan ∙ c.in-Ok.ensures) in
    let are = ap (λ p. p.actors) c.in-Ok-new-2.ensures.passes ∙ ap (λ (t : PlanTable). map (new_view i.rules i.opening) (callers_of t)) plan_is in
    subst (λ (ps : Views). IsNext 0 ps) (sym are) refl

pub take_pass-press-requires-clause-next : goal.take_pass-press-requires-clause-next
take_pass-press-requires-clause-next c =
    let i = c.in-Ok-new-2.interlock in
    let plan_is = c.new-rules.ensures ∙ (c.in-Ok-new.ensures.plan ∙ c.in-Ok.ensures) in
    let are = ap (λ p. p.actors) c.in-Ok-new-2.ensures.passes ∙ ap (λ (t : PlanTable). map (new_view i.rules i.opening) (callers_of t)) plan_is in
    let left = sym (ap (λ (ps : Views). but_first ps) c.take_pass-loader.ensures.taken) ∙ ap (λ (ps : Views). but_first ps) are in
    subst (λ (ps : Views). IsNext 1 ps) (sym left) refl

pub returns-clause-callers : goal.returns-clause-callers
returns-clause-callers c =
    let i = c.in-Ok-new-2.interlock in
    let plan_is = c.new-rules.ensures ∙ (c.in-Ok-new.ensures.plan ∙ c.in-Ok.ensures) in
    let are = ap (λ p. p.actors) c.in-Ok-new-2.ensures.passes ∙ ap (λ (t : PlanTable). map (new_view i.rules i.opening) (callers_of t)) plan_is in
    let left = sym (ap (λ (ps : Views). but_first ps) c.take_pass-loader.ensures.taken) ∙ ap (λ (ps : Views). but_first ps) are in
    let first = sym c.take_pass-loader.ensures.taken ∙ are in let second = sym c.take_pass-press.ensures.taken ∙ left in (
      ap (λ (ps : Views). (first_of (new_view i.rules i.opening 0) ps).actor) first,
      ap (λ (ps : Views). (first_of (new_view i.rules i.opening 1) ps).actor) second,
    )

pub returns-clause-rules : goal.returns-clause-rules
returns-clause-rules c =
    let i = c.in-Ok-new-2.interlock in
    let plan_is = c.new-rules.ensures ∙ (c.in-Ok-new.ensures.plan ∙ c.in-Ok.ensures) in
    let are = ap (λ p. p.actors) c.in-Ok-new-2.ensures.passes ∙ ap (λ (t : PlanTable). map (new_view i.rules i.opening) (callers_of t)) plan_is in
    let left = sym (ap (λ (ps : Views). but_first ps) c.take_pass-loader.ensures.taken) ∙ ap (λ (ps : Views). but_first ps) are in
    let first = sym c.take_pass-loader.ensures.taken ∙ are in let second = sym c.take_pass-press.ensures.taken ∙ left in (
      ap (λ (ps : Views). (first_of (new_view i.rules i.opening 0) ps).rules) first,
      ap (λ (ps : Views). (first_of (new_view i.rules i.opening 1) ps).rules) second,
    )

pub returns-clause-starts : goal.returns-clause-starts
returns-clause-starts c =
    let i = c.in-Ok-new-2.interlock in
    let plan_is = c.new-rules.ensures ∙ (c.in-Ok-new.ensures.plan ∙ c.in-Ok.ensures) in
    let are = ap (λ p. p.actors) c.in-Ok-new-2.ensures.passes ∙ ap (λ (t : PlanTable). map (new_view i.rules i.opening) (callers_of t)) plan_is in
    let left = sym (ap (λ (ps : Views). but_first ps) c.take_pass-loader.ensures.taken) ∙ ap (λ (ps : Views). but_first ps) are in
    let first = sym c.take_pass-loader.ensures.taken ∙ are in let second = sym c.take_pass-press.ensures.taken ∙ left in (
      ap (λ (ps : Views). (first_of (new_view i.rules i.opening 0) ps).opening) first,
      ap (λ (ps : Views). (first_of (new_view i.rules i.opening 1) ps).opening) second,
    )

pub returns-clause-unused : goal.returns-clause-unused
returns-clause-unused c =
    let i = c.in-Ok-new-2.interlock in
    let plan_is = c.new-rules.ensures ∙ (c.in-Ok-new.ensures.plan ∙ c.in-Ok.ensures) in
    let are = ap (λ p. p.actors) c.in-Ok-new-2.ensures.passes ∙ ap (λ (t : PlanTable). map (new_view i.rules i.opening) (callers_of t)) plan_is in
    let left = sym (ap (λ (ps : Views). but_first ps) c.take_pass-loader.ensures.taken) ∙ ap (λ (ps : Views). but_first ps) are in
    let first = sym c.take_pass-loader.ensures.taken ∙ are in let second = sym c.take_pass-press.ensures.taken ∙ left in (
      ap (λ (ps : Views). (first_of (new_view i.rules i.opening 0) ps).seen) first,
      ap (λ (ps : Views). (first_of (new_view i.rules i.opening 1) ps).seen) second,
    )
