use Rattle.std.proofs.Common.{◌≡◌, ◌∙◌, sym, refl, Option, Some, None, IsNone}
use Rattle.plan_motors.specs.declared.fault.MotorFault.{MotorFault}
use Rattle.plan_motors.proofs.lemmas.Checked.{all_fit, no_first_fault}
use Rattle.plan_motors.proofs.check.motors_and_hazards_fault.Goals as goal

none_at : (o : Option MotorFault) → IsNone o → o ≡ None
none_at None n = refl
none_at (Some f) n = cc

at_none : (o : Option MotorFault) → o ≡ None → IsNone o
at_none None n = search
at_none (Some f) n = cc

pub returns-clause-first : goal.returns-clause-first
returns-clause-first c = rw (c.or-2.ensures, c.or.ensures, c.unless.ensures, c.motors_fault.ensures, c.hazards_fault.ensures) refl

pub returns-clause-none : goal.returns-clause-none
returns-clause-none c =
    let t = c.args.plan.now in
    let same = returns-clause-first c in
    (λ none. all_fit t c.args.motors.now c.args.hazards.now c.machines.ensures.plan (sym same ∙ none_at _ none), λ k. at_none _ (same ∙ no_first_fault t c.args.motors.now c.args.hazards.now k))
