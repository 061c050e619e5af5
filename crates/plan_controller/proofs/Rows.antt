-- Literal outcomes and turns.
use Rattle.std.proofs.Common.{◌≡◌, ◌∙◌, ℕ, false, Option, Some, None, refl, sym, ap}
use Rattle.plan_types.specs.declared.posture.Posture.TheVariants.{OpenIn}
use Rattle.plan_types.specs.declared.call.Call.TheVariants.{Claim, Yield}
use Rattle.plan_types.specs.declared.answer.Answer.TheVariants.{Done, Shown, Refused}
use Rattle.plan_types.specs.declared.answer.Refusal.{Refusal}
use Rattle.plan_types.specs.declared.answer.Refusal.TheVariants.{Held, NotOwner, Worn}
use Rattle.plan_controller.specs.declared.outcome.Outcome.TheVariants.{Stays, GoesOn, Stops}
use Rattle.plan_controller.specs.Examples.{OutcomesAreRight, TurnsAreRight, at_faulty, if_held}
use Rattle.plan_controller.specs.Faults.{no_faults}
use Rattle.plan_controller.specs.Steps.{after_call}
use Rattle.plan_controller.specs.Turns.{Control, advanced}
use Rattle.plan_controller.specs.FaultExamples.{FaultsAreRight}

pub outcomes_are_right : OutcomesAreRight
outcomes_are_right = record { done = refl; not_made = refl; shown = refl; mine = refl; with_plate = refl; others = refl; nobodys = refl; not_asked = refl; held = (refl, refl); shut = (refl, refl); not_owner = (refl, refl); plate_in_zone = (refl, refl); no_plate = (refl, refl); place_full = (refl, refl); wrong_way = (refl, refl); stopped = (refl, refl); not_party = (refl, refl); already_mine = (refl, refl); jump = (refl, refl); no_pose = (refl, refl); worn = (refl, refl); not_stopped = (refl, refl); first = refl; second_alone = refl; second = refl; last = refl; none = refl; past_the_last = refl }

pub faults_are_right : FaultsAreRight
faults_are_right = record {
  none = refl;
  held = refl;
  shut = refl;
  not_owner = refl;
  plate_in_zone = refl;
  no_plate = refl;
  place_full = refl;
  wrong_way = refl;
  stopped = refl;
  all = refl;
  two = refl;
  twice = refl;
  each = λ f. refl;
  by_last = refl;
  by_posture = refl;
  by_owner = refl;
  done = refl;
  not_made = refl;
  shown = refl;
}

one_zero : ◌≡◌ {A = ℕ} 1 0 → ⊥
one_zero e = cc

zero_one : ◌≡◌ {A = ℕ} 0 1 → ⊥
zero_one e = cc

claim_yield : Claim 0 ≡ Yield 0 → ⊥
claim_yield e = cc

running_stopped : (r : Refusal) → ◌≡◌ {A = Option Refusal} None (Some r) → ⊥
running_stopped r e = cc

pub turns_are_right : TurnsAreRight
turns_are_right = record {
  claims = (GoesOn, (Some Done, (refl, refl), refl, refl), refl);
  refused = (Stays, (Some (Refused (Held 0)), (refl, refl), refl, refl), refl);
  stops = (Stops Worn, (Some (Refused Worn), (refl, refl), refl, refl), refl);
  busy = (Stays, (None, (refl, refl), refl, refl), refl);
  runs = (Stays, (tt, refl, refl), refl);
  other_sensor = (Stays, (tt, refl, refl), refl);
  ends = (GoesOn, (tt, refl, refl), refl);
  waits = (Stays, (Some (Shown (Some 0) false OpenIn), (refl, refl), refl, refl), refl);
  owns = (GoesOn, (Some (Shown (Some 1) false OpenIn), (refl, refl), refl, refl), refl);
  unread = (tt, refl, refl);
  stopped = (tt, refl, refl);
  no_program = (Stays, (tt, refl, refl), refl);
  fault = (Stops (Held 0), (Some (Refused (Held 0)), (refl, refl), refl, refl), refl);
  no_fault = (Stays, (Some (Refused (NotOwner None)), (refl, refl), refl, refl), refl);
  next_line = (Stays, (Some (Refused (Held 0)), (refl, refl), refl, refl), refl);
  not_asked_again = λ x.
      running_stopped (Held 0)
      (ap (λ (c : Control). c.stopped) (x.2 ∙ ap (advanced (at_faulty 0 None)) (x.1.3 ∙ ap (λ a. after_call a if_held) x.1.1.1)));
  not_stopped_so = λ x.
      running_stopped (Held 0)
      (sym (ap (λ (c : Control). c.stopped) (x.2 ∙ ap (advanced (at_faulty 1 None)) (x.1.3 ∙ ap (λ a. after_call a no_faults) x.1.1.1))));
  by_fault = (tt, refl, refl);
  not_on = λ x. one_zero x.1.1;
  not_off = λ x. zero_one x.1.1;
  not_asked = λ call answer x. absurd x.1.0;
  not_silent = λ x. absurd x.1.1;
  other_call = λ x. claim_yield x.1.1.0;
  lines = refl;
}
