-- What is found of a machine's program.
use Rattle.std.proofs.Common.{◌≡◌, ℕ, ◌<◌, ◌↔◌, List, map, Option, Some, None, IsNone, IfSome, refl, subst}
use Rattle.plan_motors.specs.MotorPlan.{MotorTables}
use Rattle.plan_drives.specs.Lacking.{IsUndriven}
use Rattle.plan_drives.specs.Program.{IsDriven, IsBackedAt}
use Rattle.plan_drives.specs.declared.line.Line.{Line}
use Rattle.plan_drives.specs.declared.undriven.Undriven.{Undriven}
use Rattle.plan_controller.specs.Steps.{line_of}
use Rattle.plan_controller.specs.declared.step.Step.{Step}
use Rattle.plan_app.specs.Drives.{IsDrive}

pub drive_found : (t : MotorTables) (m : ℕ) (steps : List Step) (lines : List Line) → lines ≡ map line_of steps
    → (o : Option Undriven) → (IsNone o ↔ IsDriven t m lines) → IfSome o (λ u. IsUndriven t m lines u)
    → IfSome o (λ u. (k : ℕ) → k < u.line → IsBackedAt t m lines k) → IsDrive t m steps o
drive_found t m steps lines same None none why first = subst (IsDriven t m) same (none.0 refl)
drive_found t m steps lines same (Some u) none why first = (
  subst (λ l. IsUndriven t m l u) same why,
  λ k h. subst (λ l. IsBackedAt t m l k) same (first k h),
)
