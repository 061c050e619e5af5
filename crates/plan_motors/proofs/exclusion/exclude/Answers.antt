use Rattle.std.proofs.Common.{◌≡◌, sym, ◌∙◌, subst, None}
use Rattle.plan_motors.specs.declared.exclusion.Exclusion.TheVariants.{Possible}
use Rattle.plan_motors.specs.Decided.{IsShown}
use Rattle.plan_motors.specs.Exclusion.{cause}
use Rattle.plan_motors.proofs.lemmas.Excluding.{cause_shown, never_both, state_shown}
use Rattle.plan_motors.proofs.exclusion.exclude.Goals as goal

pub returns-in-Some-clause-shown : goal.returns-in-Some-clause-shown
returns-in-Some-clause-shown c = cause_shown c.args.plan.now c.args.first.now c.args.second.now c.in-Some.cause (sym c.first_cause.ensures ∙ c.in-Some.is)

pub returns-in-Some-clause-decided : goal.returns-in-Some-clause-decided
returns-in-Some-clause-decided c =
    (λ e. never_both c.args.plan.now c.args.first.now c.args.second.now c.in-Some.cause (returns-in-Some-clause-shown c), λ k. search)

pub returns-in-None-clause-shown : goal.returns-in-None-clause-shown
returns-in-None-clause-shown c =
    let none : cause c.args.plan.now c.args.first.now c.args.second.now ≡ None = sym c.first_cause.ensures ∙ c.in-None.is in
    subst (λ s. IsShown c.args.plan.now c.args.first.now c.args.second.now (Possible s)) (sym c.state_for.ensures)
    (state_shown c.args.plan.now c.args.first.now c.args.second.now c.machines.ensures.plan none)

pub returns-in-None-clause-decided : goal.returns-in-None-clause-decided
returns-in-None-clause-decided c =
    (λ e. cc, λ k. let w = returns-in-None-clause-shown c in absurd (k c.state_for.result w.0.sound w.1 w.2))
