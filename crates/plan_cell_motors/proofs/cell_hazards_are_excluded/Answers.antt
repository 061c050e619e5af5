use Rattle.std.proofs.Common.{◌≡◌, ℕ, zero, suc, refl, Some, arith}
use Rattle.plan_types.specs.Plan.{IsPlan}
use Rattle.plan_types.proofs.lemmas.Checked.{is_plan}
use Rattle.plan_cell.specs.CellPlan.{cell_table}
use Rattle.plan_motors.specs.declared.exclusion.Cause.{Cause}
use Rattle.plan_motors.specs.declared.exclusion.Cause.TheVariants.{Zone}
use Rattle.plan_motors.specs.Decided.{NeverBoth}
use Rattle.plan_motors.specs.OfPlan.{motor_at}
use Rattle.plan_motors.proofs.lemmas.Checked.{all_fit}
use Rattle.plan_motors.proofs.lemmas.Excluding.{cause_shown, never_both}
use Rattle.plan_cell_motors.specs.CellMotors.{cell_motors, cell_hazards, cause_of, EachIsExcluded}
use Rattle.plan_cell_motors.proofs.cell_hazards_are_excluded.Goals as goal

cell_is_plan : IsPlan cell_table
cell_is_plan = is_plan cell_table refl

by_cause : (a b : ℕ) (c : Cause) → cause_of a b ≡ Some c → NeverBoth cell_table (motor_at cell_motors a) (motor_at cell_motors b)
by_cause a b c e = never_both cell_table (motor_at cell_motors a) (motor_at cell_motors b) c (cause_shown cell_table (motor_at cell_motors a) (motor_at cell_motors b) c e)

each : EachIsExcluded
each zero l = by_cause 0 7 (Zone 2) refl
each (suc zero) l = by_cause 0 8 (Zone 2) refl
each (suc (suc zero)) l = by_cause 1 6 (Zone 1) refl
each (suc (suc (suc zero))) l = by_cause 2 6 (Zone 1) refl
each (suc (suc (suc (suc zero)))) l = by_cause 5 9 (Zone 3) refl
each (suc (suc (suc (suc (suc zero))))) l = by_cause 5 11 (Zone 4) refl
each (suc (suc (suc (suc (suc (suc zero)))))) l = by_cause 3 12 (Zone 5) refl
each (suc (suc (suc (suc (suc (suc (suc zero))))))) l = by_cause 4 12 (Zone 5) refl
each (suc (suc (suc (suc (suc (suc (suc (suc zero)))))))) l = by_cause 4 1 (Zone 0) refl
each (suc (suc (suc (suc (suc (suc (suc (suc (suc zero))))))))) l = by_cause 4 2 (Zone 0) refl
each (suc (suc (suc (suc (suc (suc (suc (suc (suc (suc k)))))))))) l = absurd (omega arith)

pub returns : goal.returns
returns c = record { fit = all_fit cell_table cell_motors cell_hazards cell_is_plan refl; excluded = each }
