-- Literal histories of the press, and what its machines may run after each.
use Rattle.std.specs.Prelude.{false, List, [], ◌∷◌, ◌++◌, Some}
use Rattle.plan_types.specs.declared.posture.Posture.TheVariants.{Moving}
use Rattle.plan_types.specs.declared.call.Call.TheVariants.{Claim, Give, Yield, Release, SetPose, Inquire, Stop}
use Rattle.plan_types.specs.declared.call.Call.TheVariants.{Resume}
use Rattle.plan_types.specs.declared.answer.Refusal.TheVariants.{Held, Shut, NotOwner}
use Rattle.plan_types.specs.declared.answer.Answer.TheVariants.{Shown}
use Rattle.plan_types.specs.declared.answer.Event.{Event}
use Rattle.plan_types.specs.Table.{watch}
use Rattle.plan_types.specs.Examples.{press_table}
use Rattle.plan_rules.specs.declared.state.State.{State}
use Rattle.plan_rules.specs.Examples.{event, did, refused, press_start}
use Rattle.plan_rules.specs.History.{after, IsLegal}
use Rattle.plan_motors.specs.declared.motor.Motor.{Motor}
use Rattle.plan_motors.specs.Laws.{LosesPermission, MayStillRun, MayRun}
use Rattle.plan_motors.specs.Examples.{ram, arm}

-- the press, 1, claims its zone and moves; others are refused, inquire, stop the plant and resume it; the press is
-- refused and inquires; it opens to the loader, 0, and hands its zone over; it is refused and inquires again; the
-- loader gives its plate, and with it the zone
abbrev pub moves : List Event
moves = did 1 (Claim 0) ∷ did 1 (SetPose 3) ∷ []

abbrev pub others_ask : List Event
others_ask =
    refused 0 (Claim 0) (Held 1) ∷ event 0 (Inquire 0) (Shown (Some 1) false Moving) ∷ did watch Stop
    ∷ did watch Resume ∷ []

abbrev pub press_asks : List Event
press_asks = refused 1 (Release 0) (Shut Moving) ∷ event 1 (Inquire 0) (Shown (Some 1) false Moving) ∷ []

abbrev pub opens : List Event
opens = did 1 (SetPose 0) ∷ did 1 (Yield 0) ∷ []

abbrev pub refused_pose : List Event
refused_pose = refused 1 (SetPose 3) (NotOwner (Some 0)) ∷ []

abbrev pub gives : List Event
gives = did 0 (Give 0) ∷ []

abbrev pub loaded : List Event
loaded = moves ++ others_ask ++ press_asks ++ opens ++ refused_pose ++ gives

abbrev pub state_after : List Event → State
state_after h = after press_table press_start h

abbrev pub may_run : List Event → Motor → Type 0
may_run h m = MayRun press_table press_start h m

-- the motor was permitted after the first history, and may still run after the second one too
abbrev pub may_still_run : List Event → List Event → Motor → Type 0
may_still_run read since m = MayStillRun press_table press_start read since m

pub record RunsAreRight : Type 0 where
  pub legal : IsLegal press_table press_start loaded
  -- the ram waits until the press moves
  pub ram_waits : ¬ may_run (did 1 (Claim 0) ∷ []) ram
  pub ram_begins : may_still_run moves [] ram
  -- what others ask doesn't end it, nor do calls of the press that are refused or inquire
  pub others_calls : may_still_run moves others_ask ram
  pub own_calls : may_still_run moves (others_ask ++ press_asks) ram
  -- the press's own pose does
  pub pose_loses : LosesPermission press_table (state_after moves) 1 (SetPose 0) ram
  pub ram_ends : ¬ may_run (moves ++ did 1 (SetPose 0) ∷ []) ram
  -- the arm waits until the loader has the zone, and may be in the press until the loader gives it back
  pub arm_waits : ¬ may_run (moves ++ did 1 (SetPose 0) ∷ []) arm
  pub arm_goes_on : may_still_run (moves ++ opens) refused_pose arm
  pub gift_loses : LosesPermission press_table (state_after (moves ++ opens)) 0 (Give 0) arm
  pub arm_ends : ¬ may_run (moves ++ opens ++ gives) arm
