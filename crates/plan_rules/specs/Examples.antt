-- Literal histories of five plants: each answer is written out.
use Rattle.std.specs.Prelude.{◌≡◌, ℕ, true, false, List, [], ◌∷◌, replicate, Some, None}
use Rattle.plan_types.specs.declared.posture.Posture.TheVariants.{Closed, Moving, OpenIn, OpenOut}
use Rattle.plan_types.specs.declared.call.Call.{Call}
use Rattle.plan_types.specs.declared.call.Call.TheVariants.{Claim, Give, Yield, Take, Release, SetPose, Inquire, Stop}
use Rattle.plan_types.specs.declared.call.Call.TheVariants.{Resume}
use Rattle.plan_types.specs.declared.answer.Refusal.{Refusal}
use Rattle.plan_types.specs.declared.answer.Refusal.TheVariants.{NotParty, Held, AlreadyMine, Shut, NotOwner}
use Rattle.plan_types.specs.declared.answer.Refusal.TheVariants.{PlateInZone, NoPlate, PlaceFull, WrongWay, Jump}
use Rattle.plan_types.specs.declared.answer.Refusal.TheVariants.{NoPose, Worn, Stopped, NotStopped}
use Rattle.plan_types.specs.declared.answer.Answer.{Answer}
use Rattle.plan_types.specs.declared.answer.Answer.TheVariants.{Done, Shown, Refused}
use Rattle.plan_types.specs.declared.answer.Event.{Event}
use Rattle.plan_types.specs.Table.{PlanTable, plan_table, watch}
use Rattle.plan_types.specs.Faults.{plan_fault}
use Rattle.plan_types.specs.Examples.{way, zone, pose, press_table, lift_table}
use Rattle.plan_rules.specs.declared.state.ZoneState.{ZoneState}
use Rattle.plan_rules.specs.declared.state.State.{State}
use Rattle.plan_rules.specs.State.{start_state, free_zone}
use Rattle.plan_rules.specs.History.{after, IsLegal}

abbrev pub event : ℕ → Call → Answer → Event
event m c a = record { machine = m; call = c; answer = a }

abbrev pub did : ℕ → Call → Event
did m c = event m c Done

abbrev pub refused : ℕ → Call → Refusal → Event
refused m c r = event m c (Refused r)

-- the loader has a plate
abbrev pub press_start : State
press_start = start_state (true ∷ replicate 15 false) 0

-- the loader, 0, loads the press, 1; each is refused what it may not do
abbrev pub loading : List Event
loading =
    refused 0 (Claim 0) (Shut Closed) ∷ refused watch (Claim 0) NotParty ∷ refused 1 (Claim 1) NotParty
    ∷ refused 1 (Give 0) (NotOwner None) ∷ did 1 (Claim 0) ∷ refused 0 (Claim 0) (Held 1)
    ∷ refused 1 (Claim 0) AlreadyMine ∷ refused 0 (SetPose 3) NoPose ∷ refused 1 (SetPose 4) NoPose
    ∷ refused 1 (SetPose 0) Jump ∷ refused 1 (Yield 0) (Shut Closed) ∷ did 1 (SetPose 3)
    ∷ refused 1 (Release 0) (Shut Moving) ∷ refused 1 (Yield 0) (Shut Moving) ∷ did 1 (SetPose 0)
    ∷ refused 1 (Give 0) WrongWay ∷ refused 1 (Take 0) NoPlate ∷ did 1 (Yield 0)
    ∷ refused 1 (SetPose 3) (NotOwner (Some 0)) ∷ event watch (Inquire 0) (Shown (Some 0) false OpenIn)
    ∷ refused watch (Inquire 1) NotParty ∷ did 0 (Give 0) ∷ event 0 (Inquire 0) (Shown (Some 1) true OpenIn)
    ∷ refused 0 (Take 0) (NotOwner (Some 1)) ∷ refused 1 (SetPose 3) (PlateInZone 0)
    ∷ refused 1 (Release 0) (PlateInZone 0) ∷ refused 1 (Yield 0) (PlateInZone 0)
    ∷ refused 1 (Give 0) (PlateInZone 0) ∷ did 1 (Take 0) ∷ []

-- the press, which is full, doesn't open to be loaded; and the plate comes back
abbrev pub unloading : List Event
unloading =
    did 1 (SetPose 3) ∷ refused 1 (SetPose 0) PlaceFull ∷ did 1 (SetPose 1) ∷ did 1 (Release 0)
    ∷ did 0 (Claim 0) ∷ refused 0 (Give 0) WrongWay ∷ did 0 (Release 0) ∷ did 1 (Claim 0) ∷ did 1 (Give 0)
    ∷ did 0 (Take 0) ∷ did 0 (Release 0) ∷ []

-- the watch, 30, stops the plant while the press moves
abbrev pub stopping : List Event
stopping =
    refused watch Resume NotStopped ∷ refused 1 Stop NotParty ∷ did 1 (Claim 0) ∷ did 1 (SetPose 3) ∷ did watch Stop
    ∷ refused watch Stop Stopped ∷ refused 1 Resume NotParty ∷ refused 1 (SetPose 3) Stopped ∷ did 1 (SetPose 0)
    ∷ refused 1 (Give 0) Stopped ∷ refused 0 (Claim 0) Stopped ∷ did 1 (Release 0) ∷ did watch Resume
    ∷ did 0 (Claim 0) ∷ refused 0 (Give 0) NoPlate ∷ []

-- a stop bars no take, no yield, no release and no inquiry; the guest yields too, and the host claims an open zone
abbrev pub standing : List Event
standing =
    did 1 (Claim 0) ∷ did 1 (SetPose 3) ∷ did 1 (SetPose 0) ∷ did 1 (Yield 0) ∷ did 0 (Give 0) ∷ did watch Stop
    ∷ did 1 (Take 0) ∷ did 1 (Yield 0) ∷ did 0 (Yield 0) ∷ did 1 (Yield 0) ∷ did 0 (Release 0)
    ∷ event watch (Inquire 0) (Shown None false OpenIn) ∷ did watch Resume ∷ did 1 (Claim 0) ∷ []

-- a zone of the press, open inward and owned by a machine
abbrev pub open_inward : ℕ → ZoneState
open_inward m = record { owner = Some m; flag = false; posture = OpenIn }

-- both machines have a plate: a give into the press would find it full, and at the last stamp nothing is done
abbrev pub full_press : State
full_press = record {
  zones = open_inward 0 ∷ replicate 9 free_zone;
  full = true ∷ true ∷ replicate 14 false;
  stamp = 1048575;
  stopped = false;
}

abbrev pub wearing : List Event
wearing =
    refused 0 (Give 0) PlaceFull ∷ refused 0 (Yield 0) Worn ∷ refused 0 (Release 0) Worn ∷ refused watch Stop Worn
    ∷ event 1 (Inquire 0) (Shown (Some 0) false OpenIn) ∷ []

-- at the last stamp but one a call is done
abbrev pub last_change : List Event
last_change = did watch Stop ∷ refused watch Resume Worn ∷ []

-- the lower floor, 1, has a plate, which the lift, 0, brings to the upper floor, 2
abbrev pub lift_start : State
lift_start = start_state (false ∷ true ∷ replicate 14 false) 0

abbrev pub lifting : List Event
lifting =
    did 0 (Claim 1) ∷ event 1 (Inquire 1) (Shown (Some 0) false Closed) ∷ refused 0 (SetPose 0) (NotOwner None)
    ∷ did 0 (Claim 0) ∷ did 0 (SetPose 0) ∷ did 0 (SetPose 1)
    ∷ refused 1 (Claim 1) NotParty ∷ refused 2 (Claim 1) (Held 0) ∷ did 0 (Yield 0) ∷ did 1 (Give 0)
    ∷ refused 0 (SetPose 0) (PlateInZone 0) ∷ did 0 (Release 1) ∷ refused 0 (SetPose 0) (NotOwner None)
    ∷ did 0 (Claim 1) ∷ did 0 (Take 0) ∷ did 0 (SetPose 0) ∷ refused 0 (SetPose 4) PlaceFull ∷ did 0 (SetPose 2)
    ∷ did 0 (Give 1) ∷ refused 0 (SetPose 0) (NotOwner (Some 2)) ∷ refused 2 (Yield 1) (PlateInZone 1)
    ∷ did 2 (Take 1) ∷ refused 0 (SetPose 0) (NotOwner (Some 2)) ∷ did 2 (Yield 1) ∷ did 0 (SetPose 0) ∷ []

-- machine 0 hosts two doors, and moves the first alone; machine 1 is the guest at the first, 2 at the second; places:
-- each machine's own
-- poses: 0 moves the first door, 1 opens the second inward, 2 closes both, after moving, 3 opens the first outward
abbrev pub doors_table : PlanTable
doors_table =
    plan_table 3 (zone 0 1 None None ∷ zone 0 2 (way 2 0) (way 0 2) ∷ [])
    (pose 0 false (Some Moving) None ∷ pose 0 false None (Some OpenIn) ∷ pose 0 true (Some Closed) (Some Closed)
    ∷ pose 0 false (Some OpenOut) None ∷ [])
    (0 ∷ 1 ∷ 2 ∷ [])

-- machine 2 has a plate
abbrev pub doors_start : State
doors_start = start_state (false ∷ false ∷ true ∷ replicate 13 false) 0

-- the pose that moves the first door wants the second one too: its own, and without a plate; a door that is open
-- inward stays so, though the place is full
abbrev pub moving_one_door : List Event
moving_one_door =
    refused 0 (SetPose 0) (NotOwner None) ∷ did 0 (Claim 0) ∷ refused 0 (SetPose 0) (NotOwner None) ∷ did 0 (Claim 1)
    ∷ did 0 (SetPose 0) ∷ event 0 (Inquire 0) (Shown (Some 0) false Moving)
    ∷ event 0 (Inquire 1) (Shown (Some 0) false Closed) ∷ refused 0 (SetPose 2) Jump ∷ did 0 (SetPose 1)
    ∷ did 0 (Yield 1) ∷ refused 0 (SetPose 0) (NotOwner (Some 2)) ∷ did 2 (Give 1)
    ∷ refused 0 (SetPose 0) (PlateInZone 1) ∷ did 0 (Take 1) ∷ did 0 (SetPose 1) ∷ did 0 (SetPose 0) ∷ did watch Stop
    ∷ refused 0 (SetPose 0) Stopped ∷ []

-- the pose that opens the second door wants that one alone: the first is nobody's, or is machine 1's; one that leaves
-- a door as it is wants none
abbrev pub opening_one_door : List Event
opening_one_door =
    did 0 (Claim 1) ∷ did 0 (SetPose 1) ∷ event 0 (Inquire 0) (Shown None false Closed) ∷ []

abbrev pub opening_beside_a_guest : List Event
opening_beside_a_guest =
    did 0 (Claim 0) ∷ did 0 (SetPose 3) ∷ did 0 (Yield 0) ∷ did 0 (SetPose 3) ∷ did 0 (Claim 1) ∷ did 0 (SetPose 1)
    ∷ event 0 (Inquire 0) (Shown (Some 1) false OpenOut) ∷ event 0 (Inquire 1) (Shown (Some 0) false OpenIn) ∷ []

-- machine 0 loads two presses, 1 and 2; places: each machine's own
-- poses: 0 moves the first press, 1 opens it, after moving; 2 moves the second, 3 opens it, after moving
abbrev pub presses_table : PlanTable
presses_table =
    plan_table 3 (zone 1 0 (way 0 1) None ∷ zone 2 0 (way 0 2) None ∷ [])
    (pose 1 false (Some Moving) None ∷ pose 1 true (Some OpenIn) None ∷ pose 2 false None (Some Moving)
    ∷ pose 2 true None (Some OpenIn) ∷ [])
    (0 ∷ 1 ∷ 2 ∷ [])

-- each press moves and opens while the other one stands: closed and nobody's, then open and the loader's
abbrev pub opening_two_presses : List Event
opening_two_presses =
    did 1 (Claim 0) ∷ did 1 (SetPose 0) ∷ did 1 (SetPose 1) ∷ did 1 (Yield 0) ∷ did 2 (Claim 1) ∷ did 2 (SetPose 2)
    ∷ did 2 (SetPose 3) ∷ event 0 (Inquire 0) (Shown (Some 0) false OpenIn)
    ∷ event 0 (Inquire 1) (Shown (Some 2) false OpenIn) ∷ []

-- machine 0 hosts two gates, each with a place beyond it; machine 1 is the guest at the first, 2 at the second; places:
-- 0 and 1 machine 0's, 2 machine 1's, 3 machine 2's
-- poses: 0 moves both gates, 1 opens both inward, after moving
abbrev pub gates_table : PlanTable
gates_table =
    plan_table 3 (zone 0 1 (way 2 0) None ∷ zone 0 2 (way 3 1) None ∷ [])
    (pose 0 false (Some Moving) (Some Moving) ∷ pose 0 true (Some OpenIn) (Some OpenIn) ∷ [])
    (0 ∷ 0 ∷ 1 ∷ 2 ∷ [])

-- both guests have a plate
abbrev pub gates_start : State
gates_start = start_state (false ∷ false ∷ true ∷ true ∷ replicate 12 false) 0

-- where both gates are another's, or both have a plate, the refusal names the first
abbrev pub passing_both_gates : List Event
passing_both_gates =
    did 0 (Claim 0) ∷ did 0 (Claim 1) ∷ did 0 (SetPose 0) ∷ did 0 (SetPose 1) ∷ did 0 (Yield 1) ∷ did 0 (Yield 0)
    ∷ refused 0 (SetPose 0) (NotOwner (Some 1)) ∷ did 1 (Give 0) ∷ did 2 (Give 1)
    ∷ refused 0 (SetPose 0) (PlateInZone 0) ∷ did 0 (Take 0) ∷ refused 0 (SetPose 0) (PlateInZone 1) ∷ did 0 (Take 1)
    ∷ did 0 (SetPose 0) ∷ []

-- these histories are legal: each answer in them is the reply
pub record ExamplesAreLegal : Type 0 where
  pub press_loads : IsLegal press_table press_start loading
  pub press_unloads : IsLegal press_table (after press_table press_start loading) unloading
  pub press_stops : IsLegal press_table (start_state (replicate 16 false) 7) stopping
  pub press_stands : IsLegal press_table press_start standing
  pub press_wears : IsLegal press_table full_press wearing
  pub last_change_is_done : IsLegal press_table (start_state (replicate 16 false) 1048574) last_change
  pub lift_lifts : IsLegal lift_table lift_start lifting
  pub doors_are_a_plan : plan_fault doors_table ≡ None
  pub one_door_moves : IsLegal doors_table doors_start moving_one_door
  pub one_door_opens : IsLegal doors_table doors_start opening_one_door
  pub door_opens_beside_a_guest : IsLegal doors_table doors_start opening_beside_a_guest
  pub presses_are_a_plan : plan_fault presses_table ≡ None
  pub presses_open : IsLegal presses_table press_start opening_two_presses
  pub gates_are_a_plan : plan_fault gates_table ≡ None
  pub both_gates_pass : IsLegal gates_table gates_start passing_both_gates
