-- What each word has of a program, and where its controller is.
use Rattle.std.proofs.Common.{◌≡◌, ◌≢◌, ℕ, nat_eq, Bool, if◌then◌else◌, Option, Some, None, [], refl, ap, ◌∙◌}
use Rattle.std.specs.Prelude.{option_and_then}
use Rattle.std.specs.List.{cons_option}
use Rattle.std.proofs.lemmas.Bool.{eq-eqb, ne_eqb}
use Rattle.std.proofs.lemmas.List.Elements.{filter_map-append}
use Rattle.plan_controller.specs.declared.step.Step.{Step}
use Rattle.plan_controller.specs.declared.step.Step.TheVariants as step
use Rattle.plan_workers.specs.declared.routed_step.RoutedStep.TheVariants.{Do, Await, Run}
use Rattle.plan_workers.specs.PlantSteps.{step_on, place_on}
use Rattle.plan_workers.specs.PlantTurns.{PlantControl, if_here}
use Rattle.plan_workers.specs.PlantStepLaws.{ProgramsAreSplit, WordsKeepPace}
use Rattle.plan_workers.proofs.PlacesOnWords.{goes_round, stands}

own : (w : ℕ) (s : Step) → (if nat_eq w w then Some s else None) ≡ Some s
own w s = ap (λ (b : Bool). if b then Some s else None) (eq-eqb w w refl)

other : (k w : ℕ) (s : Step) → k ≢ w → (if nat_eq k w then Some s else None) ≡ None
other k w s apart = ap (λ (b : Bool). if b then Some s else None) (ne_eqb k w apart)

alone : (o p : Option Step) → o ≡ p → cons_option o [] ≡ cons_option p []
alone o p e = ap (λ x. cons_option x []) e

pub programs_are_split : (w : ℕ) → ProgramsAreSplit w
programs_are_split w = record {
  in_order = filter_map-append (step_on w);
  own_calls = λ call faults. alone _ _ (own w (step.Do call faults));
  own_waits = λ z. alone _ _ (own w (step.Await z));
  runs = λ motors until. refl;
  other_calls = λ k call faults apart. alone _ _ (other k w (step.Do call faults) apart);
  other_waits = λ k z apart. alone _ _ (other k w (step.Await z) apart);
  no_more = refl;
}

pub words_keep_pace : (c : PlantControl) (w : ℕ) → WordsKeepPace c w
words_keep_pace c w = record {
  begins = λ e. ap (place_on w c.steps) e ∙ goes_round (step_on w) c.steps;
  calls = λ call faults at. stands (step_on w) c.steps c.place (Do w call faults) (step.Do call faults) at (own w (step.Do call faults));
  waits = λ z at. stands (step_on w) c.steps c.place (Await w z) (step.Await z) at (own w (step.Await z));
  runs = λ motors until at. stands (step_on w) c.steps c.place (Run motors until) (step.Run motors until) at refl;
  other_calls = λ k call faults sensors apart at. ap (λ h. if_here h sensors) (ap (option_and_then (step_on w)) at ∙ other k w (step.Do call faults) apart);
  other_waits = λ k z sensors apart at. ap (λ h. if_here h sensors) (ap (option_and_then (step_on w)) at ∙ other k w (step.Await z) apart);
}
