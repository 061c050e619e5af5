-- The examples of `hazard_lines_are_met`, and the law `kept_motors_are_never_both`.
use Rattle.std.proofs.Common.{◌≡◌, ◌<◌, ℕ, suc, zero, Bool, true, false, ◌&&◌, List, [], ◌∷◌, length, is_none, refl, arith, Option}
use Rattle.std.specs.Fmt.{digits}
use Rattle.std.specs.List.{AllZip, list_all}
use Rattle.plan_motors.specs.declared.motor.Hazard.{Hazard}
use Rattle.plan_motors.specs.OfPlan.{hazard_at, motor_at}
use Rattle.plan_motors.specs.Poses.{NeverFromPostures}
use Rattle.plan_app.specs.HazardExamples.{AreKept, AreTurns, HazardLines, KeptMotorsAreNeverBoth, LeadLines, press_calls}
use Rattle.plan_app.specs.GoingExamples.{loaded, press}
use Rattle.plan_explorer.specs.Examples.{patient}
use Rattle.plan_motors.specs.declared.verdict.Verdict.TheVariants.{Possible}
use Rattle.plan_app.specs.declared.leads.Lead.{Lead}
use Rattle.plan_app.specs.declared.leads.Lead.TheVariants.{Unsought, Never, Turns, Unfinished}
use Rattle.plan_picture.specs.Pictures.{opening}
use Rattle.plan_app.specs.Hazards.{IsFindingOf, are_kept, is_kept, lead_text, motors_text}
use Rattle.plan_app.specs.declared.hazards.Finding.{Finding}
use Rattle.plan_document.specs.declared.resolving.ProgrammedPlan.{ProgrammedPlan}
use Rattle.plan_rules.specs.declared.state.State.{State}

pub hazard-lines : HazardLines
unfolding digits motors_text
hazard-lines = record {
  zone = refl;
  place = refl;
  poses = refl;
  nothing = refl;
  held = refl;
  all = refl;
  first = refl;
  second = refl;
  whole = refl;
  no_finding = refl;
  no_hazard = refl;
  no_motor = refl;
}

turns_told : (lead : Lead) → AreTurns lead (0 ∷ 1 ∷ 1 ∷ []) → lead_text press patient loaded (Possible loaded) lead ≡ press_calls
turns_told Unsought is = absurd is
turns_told Never is = absurd is
turns_told (Turns turns) is = rw is refl
turns_told (Unfinished limit fewer) is = absurd is

pub lead-lines : LeadLines
unfolding digits
lead-lines = record {
  never = refl;
  no_places = λ t. refl;
  large = refl;
  at_once = refl;
  calls = refl;
  turns = turns_told;
  full = refl;
  scripted = refl;
}

pub are-kept : AreKept
are-kept = record { all = refl; none = refl; last = refl }

pub both : (a b : Bool) → (a && b) ≡ true → (a ≡ true) × (b ≡ true)
both true b e = (refl, e)
both false b e = absurd (cc)

abbrev NeverBoth : ProgrammedPlan → Hazard → Type 0
NeverBoth plan h =
    NeverFromPostures plan.named.plan opening (motor_at plan.motors.motors.items h.first)
    (motor_at plan.motors.motors.items h.second)

never_both : (most : ℕ) (plan : ProgrammedPlan) (start : Option State) (hazards : List Hazard) (findings : List Finding) → AllZip (IsFindingOf most plan start) hazards findings → list_all is_kept findings ≡ true
    → (k : ℕ) → k < length hazards → NeverBoth plan (hazard_at hazards k)
never_both most plan start [] findings are kept k l = absurd (omega (arith, l))
never_both most plan start (h ∷ hazards) [] are kept k l = absurd are
never_both most plan start (h ∷ hazards) (f ∷ findings) are kept zero l = are.0.verdict.never (both (is_kept f) (list_all is_kept findings) kept).0
never_both most plan start (h ∷ hazards) (f ∷ findings) are kept (suc k) l =
    never_both most plan start hazards findings are.1 (both (is_kept f) (list_all is_kept findings) kept).1 k (omega (arith, l))

pub kept-never-both : KeptMotorsAreNeverBoth
kept-never-both most plan start text is k l = never_both most plan start plan.motors.hazards.items is.findings is.are (both (are_kept is.findings) (list_all is_none is.drives) is.right).0 k l
