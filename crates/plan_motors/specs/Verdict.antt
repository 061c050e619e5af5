-- What is said of a hazard.
use Rattle.std.specs.Prelude.{Bool, true, false}
use Rattle.plan_types.specs.Table.{PlanTable}
use Rattle.plan_rules.specs.declared.state.State.{State}
use Rattle.plan_motors.specs.declared.motor.Motor.{Motor}
use Rattle.plan_motors.specs.declared.exclusion.Exclusion.TheVariants as exclusion
use Rattle.plan_motors.specs.declared.verdict.Verdict.{Verdict}
use Rattle.plan_motors.specs.declared.verdict.Verdict.TheVariants.{Excluded, ByPoses, Possible}
use Rattle.plan_motors.specs.Decided.{IsShown}
use Rattle.plan_motors.specs.Poses.{IsApartByPoses}

-- what a verdict of two motors and an opening shows: a zone or a place that keeps the motors apart in every sound
-- state; a host whose zones, by its poses, keep them apart from every opening with these postures; or a sound state
-- that permits both
abbrev pub IsShownBy : PlanTable → Motor → Motor → State → Verdict → Type 0
IsShownBy t a b s (Excluded cause) = IsShown t a b (exclusion.Excluded cause)
IsShownBy t a b s (ByPoses host) = IsApartByPoses t a b s host
IsShownBy t a b s (Possible both) = IsShown t a b (exclusion.Possible both)

abbrev pub is_never : Verdict → Bool
is_never (Excluded _) = true
is_never (ByPoses _) = true
is_never (Possible _) = false
