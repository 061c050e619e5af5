-- What literal motors need of zones and places, which states permit them, and answers that aren't shown.
use Rattle.std.specs.Prelude.{◌≡◌, true, false, replicate, Some, None}
use Rattle.plan_types.specs.declared.posture.Posture.TheVariants.{Closed, Moving, OpenIn, OpenOut}
use Rattle.plan_types.specs.Examples.{press_table, lift_table, counted}
use Rattle.plan_rules.specs.declared.state.State.{State}
use Rattle.plan_rules.specs.State.{start_state}
use Rattle.plan_rules.specs.Examples.{press_start, full_press}
use Rattle.plan_word.specs.Examples.{lifted}
use Rattle.plan_motors.specs.declared.exclusion.Cause.TheVariants.{Zone, Place}
use Rattle.plan_motors.specs.declared.exclusion.Exclusion.TheVariants.{Excluded, Possible}
use Rattle.plan_motors.specs.declared.verdict.Verdict.TheVariants as verdict
use Rattle.plan_motors.specs.Motor.{no_need, need_of, place_need, meets, meets_place, Permits}
use Rattle.plan_motors.specs.Decided.{NeverBoth, IsShown, is_excluded}
use Rattle.plan_motors.specs.Poses.{NeverFrom, NeverFromPostures}
use Rattle.plan_motors.specs.Verdict.{IsShownBy, is_never}
use Rattle.plan_motors.specs.Examples.{owned, held, hosted, at_zone, at_place, choosy, ram, arm, loading_arm, valve}
use Rattle.plan_motors.specs.Examples.{cabin, lower_gate, upper_gate}

pub record NeedsAreRight : Type 0 where
  -- a zone that its machine has to hold
  pub held_by_it : meets 1 (held None) (owned (Some 1) Closed) ≡ true
  pub held_by_other : meets 1 (held None) (owned (Some 2) Closed) ≡ false
  pub held_by_nobody : meets 1 (held None) (owned None Closed) ≡ false
  pub held_moving : meets 1 (held (Some Moving)) (owned (Some 1) Moving) ≡ true
  pub held_at_rest : meets 1 (held (Some Moving)) (owned (Some 1) OpenIn) ≡ false
  pub held_moving_by_other : meets 1 (held (Some Moving)) (owned (Some 2) Moving) ≡ false
  -- a posture of a zone that it hosts, whoever holds it
  pub hosted_of_nobody : meets 1 (hosted OpenOut) (owned None OpenOut) ≡ true
  pub hosted_of_guest : meets 1 (hosted OpenOut) (owned (Some 0) OpenOut) ≡ true
  pub hosted_otherwise : meets 1 (hosted OpenOut) (owned (Some 1) OpenIn) ≡ false
  pub unneeded : meets 1 no_need (owned (Some 0) Moving) ≡ true
  pub full : meets_place (Some true) true ≡ true
  pub not_full : meets_place (Some true) false ≡ false
  pub empty : meets_place (Some false) false ≡ true
  pub not_empty : meets_place (Some false) true ≡ false
  pub unneeded_place : meets_place None true ≡ true
  pub tenth_zone : need_of (choosy 1) 9 ≡ hosted OpenOut
  pub no_eleventh_zone : need_of (choosy 1) 10 ≡ no_need
  pub sixteenth_place : place_need (at_place 1 15 false) 15 ≡ Some false
  pub no_seventeenth_place : place_need (choosy 1) 16 ≡ None

-- in `full_press` the loader holds the open press, and both places are full; in `lifted` the lift holds the lower zone,
-- Closed, and the upper floor the upper one
pub record PermitsAreRight : Type 0 where
  pub arm_is_in : Permits press_table full_press arm
  pub loads : Permits press_table full_press loading_arm
  pub valve_waits : ¬ Permits press_table full_press valve
  pub valve_runs : Permits press_table press_start valve
  pub arm_waits : ¬ Permits press_table press_start loading_arm
  pub hand_is_empty : ¬ Permits press_table (record full_press { full = replicate 16 false }) loading_arm
  pub upper_gate_opens : Permits lift_table lifted upper_gate
  pub lower_gate_waits : ¬ Permits lift_table lifted lower_gate
  pub cabin_waits : ¬ Permits lift_table lifted cabin
  -- the last zone and the last place count
  pub eighth_zone : ¬ Permits (counted 8 3) (start_state (replicate 16 false) 0) (at_zone 1 7 (held None))
  pub sixteenth_place : ¬ Permits (counted 0 16) (start_state (replicate 16 false) 0) (at_place 0 15 true)

abbrev pub worn_out : State
worn_out = record full_press { stamp = 1048576 }

-- what answers don't show: the ram and the valve may run both, and so may the arm and the arm
pub record BadAnswers : Type 0 where
  pub zone : ¬ IsShown press_table ram valve (Excluded (Zone 0))
  pub no_zone : ¬ IsShown press_table ram arm (Excluded (Zone 1))
  pub place : ¬ IsShown press_table valve ram (Excluded (Place 1))
  pub no_place : ¬ IsShown press_table ram arm (Excluded (Place 2))
  pub not_first : ¬ IsShown press_table valve arm (Possible full_press)
  pub not_second : ¬ IsShown press_table arm valve (Possible full_press)
  pub of_no_plan : ¬ IsShown press_table arm arm (Possible worn_out)
  pub zone_verdict : ¬ IsShownBy press_table ram valve press_start (verdict.Excluded (Zone 0))
  pub pose_verdict : ¬ IsShownBy press_table ram valve press_start (verdict.ByPoses 1)
  pub state_verdict : ¬ IsShownBy press_table arm valve press_start (verdict.Possible full_press)
  pub ram_and_valve : ¬ NeverBoth press_table ram valve
  pub ram_and_arm : NeverBoth press_table ram arm
  pub from_start : ¬ NeverFrom press_table press_start ram valve
  pub from_postures : ¬ NeverFromPostures press_table press_start ram valve

pub record AnswersTell : Type 0 where
  pub by_zone : is_excluded (Excluded (Zone 3)) ≡ true
  pub by_place : is_excluded (Excluded (Place 5)) ≡ true
  pub by_none : is_excluded (Possible full_press) ≡ false
  pub never_by_zone : is_never (verdict.Excluded (Zone 3)) ≡ true
  pub never_by_place : is_never (verdict.Excluded (Place 5)) ≡ true
  pub never_by_poses : is_never (verdict.ByPoses 7) ≡ true
  pub perhaps : is_never (verdict.Possible full_press) ≡ false
