-- The examples of `drive_lines_are_met`, and the law `right_drives_are_permitted`.
use Rattle.std.proofs.Common.{◌≡◌, ℕ, suc, zero, ◌+◌, true, List, [], ◌∷◌, is_none, map, Option, Some, None}
use Rattle.std.proofs.Common.{refl, subst, arith}
use Rattle.std.specs.Prelude.{slice_get}
use Rattle.std.specs.Fmt.{digits}
use Rattle.std.specs.Global.{Vec}
use Rattle.std.specs.List.{AllZip, enumerate_from, list_all}
use Rattle.plan_motors.specs.MotorPlan.{MotorTables, motor_plan}
use Rattle.plan_drives.specs.Program.{IsDriven}
use Rattle.plan_drives.specs.declared.undriven.Undriven.{Undriven}
use Rattle.plan_controller.specs.Steps.{line_of}
use Rattle.plan_controller.specs.declared.step.Step.{Step}
use Rattle.plan_app.specs.DriveExamples.{DriveLines, RunsAreTold, RightDrivesArePermitted}
use Rattle.plan_app.specs.Drives.{IsDriveOf}
use Rattle.plan_app.specs.Hazards.{are_kept}
use Rattle.plan_app.proofs.HazardRows.{both}

pub drive-lines : DriveLines
unfolding digits
drive-lines = record {
  posture = refl;
  unknown = refl;
  held = refl;
  empty = refl;
  maybe_empty = refl;
  full = refl;
  maybe_full = refl;
  other = refl;
  stranger = refl;
  first = refl;
  second = refl;
  past = refl;
}

pub runs-told : RunsAreTold
runs-told = record { runs = refl; last = refl; waits = refl; awaits = refl; calls = refl }

driven_at : (t : MotorTables) (k : ℕ) (steps : List (Vec Step)) (found : List (Option Undriven))
    → AllZip (IsDriveOf t) (enumerate_from k steps) found → list_all is_none found ≡ true
    → (i : ℕ) (program : Vec Step) → slice_get steps i ≡ Some program → IsDriven t (k + i) (map line_of program.items)
driven_at t k [] found all none i program there = absurd (cc)
driven_at t k (s ∷ steps) [] all none i program there = absurd all
driven_at t k (s ∷ steps) (Some u ∷ found) all none i program there = absurd (cc)
driven_at t k (s ∷ steps) (None ∷ found) all none zero program there =
    let here : k ≡ k + 0 = omega arith in
    let same : s ≡ program = cc in
    subst (λ (p : Vec Step). IsDriven t (k + 0) (map line_of p.items)) same
    (subst (λ n. IsDriven t n (map line_of s.items)) here all.0)
driven_at t k (s ∷ steps) (None ∷ found) all none (suc i) program there =
    let later : k + 1 + i ≡ k + suc i = omega arith in
    subst (λ n. IsDriven t n (map line_of program.items)) later
    (driven_at t (k + 1) steps found all.1 none i program there)

pub right-permitted : RightDrivesArePermitted
right-permitted most plan start text is fit few m program there =
    let t = motor_plan plan.named.plan plan.motors.motors.items plan.motors.hazards.items in
    let at : 0 + m ≡ m = omega arith in
    subst (λ n. IsDriven t n (map line_of program.items)) at
    (driven_at t 0 plan.steps.items is.drives (is.are_drives fit few)
    (both (are_kept is.findings) (list_all is_none is.drives) is.right).1 m program there)
