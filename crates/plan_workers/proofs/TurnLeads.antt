-- Where a turn leads, by what its line has seen.
use Rattle.std.proofs.Common.{◌≡◌, ℕ, Option, Some, None, List, refl, sym, subst}
use Rattle.plan_types.specs.declared.call.Call.{Call}
use Rattle.plan_types.specs.declared.call.Call.TheVariants.{Inquire}
use Rattle.plan_types.specs.declared.answer.Answer.{Answer}
use Rattle.plan_types.specs.declared.answer.Refusal.{Refusal}
use Rattle.plan_types.specs.declared.answer.Event.{Event}
use Rattle.plan_types.specs.Table.{PlanTable}
use Rattle.plan_rules.specs.declared.state.State.{State}
use Rattle.plan_rules.specs.History.{IsLegal}
use Rattle.plan_drives.specs.Course.{IsAt}
use Rattle.plan_controller.specs.declared.step.Step.{Step}
use Rattle.plan_controller.specs.declared.step.Step.TheVariants.{Do, Await, Run}
use Rattle.plan_controller.specs.declared.outcome.Outcome.{Outcome}
use Rattle.plan_controller.specs.Seen.{SeenAfter}
use Rattle.plan_controller.specs.Steps.{shows}
use Rattle.plan_controller.specs.Turns.{Control, step_in, program_in, place_after, Performs, TurnsBy, Turns}
use Rattle.plan_controller.proofs.lemmas.Leading.{call_leads, inquiry_leads, run_leads}

module _ (t : PlanTable) (s : State) (before after : List Event) (legal : IsLegal t s after) (k now : Control) (same : Type 0) (asks : Call → Option Answer → Type 0) (motors : ℕ)
    (still : same → after ≡ before) (seen : (call : Call) (a : Option Answer) → asks call a → SeenAfter k.machine call a before after) (at : IsAt t s before k.machine (program_in k) k.place) where
  abbrev There : Control → Type 0
  There x = IsAt t s after x.machine (program_in x) x.place

  stays : same → There k
  stays as_before = subst (λ h. IsAt t s h k.machine (program_in k) k.place) (sym (still as_before)) at

  led : (read : ℕ) (o : Outcome) (st : Option Step) → step_in k ≡ st → Performs k same asks read st motors o → IsAt t s after k.machine (program_in k) (place_after k o)
  led read o None is p = subst (λ y. IsAt t s after k.machine (program_in k) (place_after k y)) (sym p.2) (stays p.0)
  led read o (Some (Do call faults)) is p =
      subst (λ y. IsAt t s after k.machine (program_in k) (place_after k y)) (sym p.3) (call_leads t s before after k call faults p.0 is (seen call p.0 p.1) at)
  led read o (Some (Await z)) is p =
      subst (λ y. IsAt t s after k.machine (program_in k) (place_after k y)) (sym p.3) (inquiry_leads t s before after k z p.0 legal is (seen (Inquire z) p.0 p.1) at)
  led read o (Some (Run run until)) is p =
      subst (λ y. IsAt t s after k.machine (program_in k) (place_after k y)) (sym p.2) (run_leads t s after k run until (shows read until) is (stays p.0))

  by : (stopped : Option Refusal) (sensors : Option ℕ) → TurnsBy stopped k same asks sensors motors now → There now
  by None (Some read) x = subst There (sym x.2) (led read x.0 (step_in k) refl x.1)
  by None None x = subst There (sym x.2) (stays x.0)
  by (Some r) sensors x = subst There (sym x.2) (stays x.0)

  -- who was at its place is at its place after the turn
  pub turn_leads : (sensors : Option ℕ) → Turns k same asks sensors motors now → IsAt t s after now.machine (program_in now) now.place
  turn_leads sensors x = by k.stopped sensors x
