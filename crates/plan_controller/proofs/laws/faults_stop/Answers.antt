use Rattle.std.proofs.Common.{◌≡◌, ◌∙◌, Bool, true, false, not, if◌then◌else◌, Option, Some, None, refl, ap, subst}
use Rattle.plan_types.specs.declared.call.Call.{Call}
use Rattle.plan_types.specs.declared.answer.Answer.{Answer}
use Rattle.plan_types.specs.declared.answer.Answer.TheVariants.{Refused}
use Rattle.plan_types.specs.declared.answer.Refusal.{Refusal}
use Rattle.plan_controller.specs.declared.faults.Faults.{Faults}
use Rattle.plan_controller.specs.declared.faults.Mendable.{Mendable}
use Rattle.plan_controller.specs.declared.outcome.Outcome.TheVariants.{Stays, Stops}
use Rattle.plan_controller.specs.Faults.{has, is_waited_out, mendable}
use Rattle.plan_controller.specs.Laws.{FaultsStop, FaultsStopTurns}
use Rattle.plan_controller.specs.Steps.{after_call}
use Rattle.plan_controller.specs.Turns.{advanced, Performs, TurnsBy}
use Rattle.plan_controller.proofs.laws.faults_stop.Goals as goal

-- what a refusal leads to, by whether it is a fault
by_kind : (r : Refusal) (faults : Faults) (kind : Mendable) (b : Bool) → mendable r ≡ Some kind → has faults kind ≡ b
    → after_call (Some (Refused r)) faults ≡ (if not b then Stays else Stops r)
by_kind r faults kind b is fault =
    ap (λ k. if is_waited_out faults k then Stays else Stops r) is ∙ ap (λ named. if not named then Stays else Stops r) fault

outcomes : (r : Refusal) (faults : Faults) → FaultsStop r faults
outcomes r faults = record {
  fault = λ kind is fault. by_kind r faults kind true is fault;
  no_fault = λ kind is fault. by_kind r faults kind false is fault;
  never = λ is. ap (λ k. if is_waited_out faults k then Stays else Stops r) is;
  done = refl;
  not_made = refl;
}

turns : FaultsStopTurns
turns c call faults r kind read motors now running step is turn =
    let Asks : Call → Option Answer → Type 0 = λ q a. (q ≡ call) × (a ≡ Some (Refused r)) in
    let t : TurnsBy None c ⊥ Asks (Some read) motors now = subst (λ s. TurnsBy s c ⊥ Asks (Some read) motors now) running turn in
    let p = subst (λ o. Performs c ⊥ Asks read o motors t.0) step t.1 in
    let led = t.2 ∙ ap (advanced c) (p.3 ∙ ap (λ a. after_call a faults) p.1.1) in
    record {
      fault = λ fault. led ∙ ap (advanced c) (by_kind r faults kind true is fault);
      no_fault = λ fault. led ∙ ap (advanced c) (by_kind r faults kind false is fault);
      off = p.2;
    }

pub returns-clause-outcomes : goal.returns-clause-outcomes
returns-clause-outcomes c = outcomes

pub returns-clause-turns : goal.returns-clause-turns
returns-clause-turns c = turns
