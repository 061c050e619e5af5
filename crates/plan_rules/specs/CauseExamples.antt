-- All causes of literal calls: which of the literal refusals there are, with whatever they name, and no others.
use Rattle.std.specs.Prelude.{◌≡◌, ℕ, Bool, true, false, List, [], ◌∷◌, ◌++◌, map, filter, replicate}
use Rattle.std.specs.Prelude.{Option, Some, None}
use Rattle.plan_types.specs.declared.posture.Posture.{Posture}
use Rattle.plan_types.specs.declared.posture.Posture.TheVariants.{Closed, Moving, OpenIn, OpenOut}
use Rattle.plan_types.specs.declared.table.PlanPose.{PlanPose}
use Rattle.plan_types.specs.declared.call.Call.{Call}
use Rattle.plan_types.specs.declared.call.Call.TheVariants.{Claim, Give, Yield, Take, Release, SetPose, Inquire, Stop}
use Rattle.plan_types.specs.declared.call.Call.TheVariants.{Resume}
use Rattle.plan_types.specs.declared.answer.Refusal.{Refusal}
use Rattle.plan_types.specs.declared.answer.Refusal.TheVariants.{NotParty, Held, AlreadyMine, Shut, NotOwner}
use Rattle.plan_types.specs.declared.answer.Refusal.TheVariants.{PlateInZone, NoPlate, PlaceFull, WrongWay, Jump}
use Rattle.plan_types.specs.declared.answer.Refusal.TheVariants.{NoPose, Worn, Stopped, NotStopped}
use Rattle.plan_types.specs.Table.{PlanTable, plan_table, watch}
use Rattle.plan_types.specs.Faults.{plan_fault}
use Rattle.plan_types.specs.Examples.{way, zone, press_table}
use Rattle.plan_rules.specs.declared.state.ZoneState.{ZoneState}
use Rattle.plan_rules.specs.declared.state.State.{State}
use Rattle.plan_rules.specs.State.{free_zone}
use Rattle.plan_rules.specs.Causes.{number_of, order_of, is_cause}
use Rattle.plan_rules.specs.RefusalLaws.{is_no_later}
use Rattle.plan_rules.specs.Examples.{gates_table}
use Rattle.plan_rules.specs.OrderExamples.{interior, free, moving, open_outward, owned_by_loader}
use Rattle.plan_rules.specs.OrderExamples.{given, given_back, with_stop, with_last_stamp}

-- refusals of each kind, with different things that they name
abbrev pub refusals : List Refusal
refusals =
    NotParty ∷ Held 0 ∷ Held 1 ∷ Held 2 ∷ Held 3 ∷ AlreadyMine ∷ Shut Closed ∷ Shut Moving ∷ Shut OpenIn ∷ Shut OpenOut
    ∷ NotOwner None ∷ NotOwner (Some 0) ∷ NotOwner (Some 1) ∷ NotOwner (Some 2) ∷ NotOwner (Some 3) ∷ PlateInZone 0
    ∷ PlateInZone 1 ∷ PlateInZone 6 ∷ PlateInZone 7 ∷ NoPlate ∷ PlaceFull ∷ WrongWay ∷ Jump ∷ NoPose ∷ Worn ∷ Stopped
    ∷ NotStopped ∷ []

-- these of them are causes to refuse a call in a state, and no others
abbrev pub HasCauses : PlanTable → State → ℕ → Call → List Refusal → Type 0
HasCauses t s m c causes = filter (is_cause t s m c) refusals ≡ causes

abbrev pub AtPress : State → ℕ → Call → List Refusal → Type 0
AtPress s m c causes = HasCauses press_table s m c causes

-- the same state, but stopped and at the last stamp
abbrev pub late : State → State
late s = with_stop (with_last_stamp s)

-- a pose that gives one of eight zones a posture
abbrev pub gate_pose : ℕ → Bool → List (Option Posture) → PlanPose
gate_pose machine after_moving gives = record { machine = machine; after_moving = after_moving; gives = gives }

-- eight zones: six are machine 1's and 0's, the seventh, 6, is 2's and 1's, the eighth, 7, is 3's and 2's; places 0 and
-- 1 are machine 2's, place 2 machine 3's
-- poses: 0 moves the eighth zone, 1 opens it inward, after moving, 2 opens it outward; 3 moves the seventh
abbrev pub eight_table : PlanTable
eight_table =
    plan_table 4 (replicate 6 (zone 1 0 None None) ++ zone 2 1 None None ∷ zone 3 2 (way 1 2) (way 2 0) ∷ [])
    (gate_pose 3 false (replicate 7 None ++ Some Moving ∷ None ∷ None ∷ [])
    ∷ gate_pose 3 true (replicate 7 None ++ Some OpenIn ∷ None ∷ None ∷ [])
    ∷ gate_pose 3 false (replicate 7 None ++ Some OpenOut ∷ None ∷ None ∷ [])
    ∷ gate_pose 2 false (replicate 6 None ++ Some Moving ∷ None ∷ None ∷ None ∷ []) ∷ [])
    (2 ∷ 2 ∷ 3 ∷ [])

-- the eighth zone, and whether place 2 has a plate; place 1 has one, and place 0 has none
abbrev pub last_zone : ZoneState → Bool → State
last_zone eighth full = record {
  zones = replicate 7 free_zone ++ eighth ∷ replicate 2 free_zone;
  full = false ∷ true ∷ full ∷ replicate 13 false;
  stamp = 7;
  stopped = false;
}

abbrev pub AtLastZone : ZoneState → Bool → ℕ → Call → List Refusal → Type 0
AtLastZone eighth full m c causes = HasCauses eight_table (last_zone eighth full) m c causes

-- two gates of machine 0, with no plate in a place
abbrev pub both_gates : ZoneState → ZoneState → State
both_gates first second = record {
  zones = first ∷ second ∷ replicate 8 free_zone;
  full = replicate 16 false;
  stamp = 7;
  stopped = false;
}

abbrev pub AtBothGates : ZoneState → ZoneState → ℕ → Call → List Refusal → Type 0
AtBothGates first second m c causes = HasCauses gates_table (both_gates first second) m c causes

pub record ClaimCauses : Type 0 where
  pub shut : AtPress free 0 (Claim 0) (Shut Closed ∷ [])
  pub host : AtPress free 1 (Claim 0) []
  pub stranger : AtPress free watch (Claim 0) (NotParty ∷ [])
  pub held_moving : AtPress moving 0 (Claim 0) (Held 1 ∷ Shut Moving ∷ [])
  pub mine_moving : AtPress moving 1 (Claim 0) (AlreadyMine ∷ [])
  pub held_open : AtPress open_outward 0 (Claim 0) (Held 1 ∷ [])
  pub mine_open : AtPress open_outward 1 (Claim 0) (AlreadyMine ∷ [])
  pub guest_has_it : AtPress given_back 0 (Claim 0) (AlreadyMine ∷ [])
  pub held_by_guest : AtPress given_back 1 (Claim 0) (Held 0 ∷ [])
  pub late_call : AtPress (late open_outward) 0 (Claim 0) (Held 1 ∷ Worn ∷ Stopped ∷ [])
  pub late_watch : AtPress (late free) watch (Claim 0) (NotParty ∷ Worn ∷ Stopped ∷ [])

pub record GiveCauses : Type 0 where
  pub free_loader : AtPress free 0 (Give 0) (NotOwner None ∷ WrongWay ∷ [])
  pub free_press : AtPress free 1 (Give 0) (NotOwner None ∷ WrongWay ∷ [])
  pub given_loader : AtPress given 0 (Give 0)
      (NotOwner (Some 1) ∷ PlateInZone 0 ∷ NoPlate ∷ PlaceFull ∷ [])
  pub given_press : AtPress given 1 (Give 0) (PlateInZone 0 ∷ WrongWay ∷ [])
  pub given_back_loader : AtPress given_back 0 (Give 0) (PlateInZone 0 ∷ WrongWay ∷ [])
  pub given_back_press : AtPress given_back 1 (Give 0)
      (NotOwner (Some 0) ∷ PlateInZone 0 ∷ NoPlate ∷ PlaceFull ∷ [])
  pub moving_loader : AtPress moving 0 (Give 0) (NotOwner (Some 1) ∷ WrongWay ∷ [])
  pub moving_press : AtPress moving 1 (Give 0) (WrongWay ∷ [])
  pub outward : AtPress open_outward 1 (Give 0) []
  pub no_plate : AtPress (owned_by_loader false) 0 (Give 0) (NoPlate ∷ PlaceFull ∷ [])
  pub full : AtPress (owned_by_loader true) 0 (Give 0) (PlaceFull ∷ [])
  pub not_owner : AtPress (owned_by_loader true) 1 (Give 0) (NotOwner (Some 0) ∷ WrongWay ∷ [])
  pub late_watch : AtPress (late given) watch (Give 0)
      (NotParty ∷ NotOwner (Some 1) ∷ PlateInZone 0 ∷ WrongWay ∷ Worn ∷ Stopped ∷ [])

pub record YieldCauses : Type 0 where
  pub free_loader : AtPress free 0 (Yield 0) (Shut Closed ∷ NotOwner None ∷ [])
  pub free_press : AtPress free 1 (Yield 0) (Shut Closed ∷ NotOwner None ∷ [])
  pub given_loader : AtPress given 0 (Yield 0) (NotOwner (Some 1) ∷ PlateInZone 0 ∷ [])
  pub given_press : AtPress given 1 (Yield 0) (PlateInZone 0 ∷ [])
  pub moving_loader : AtPress moving 0 (Yield 0) (Shut Moving ∷ NotOwner (Some 1) ∷ [])
  pub moving_press : AtPress moving 1 (Yield 0) (Shut Moving ∷ [])
  pub outward : AtPress open_outward 1 (Yield 0) []
  pub not_owner : AtPress (owned_by_loader true) 1 (Yield 0) (NotOwner (Some 0) ∷ [])
  pub late_call : AtPress (late given_back) 1 (Yield 0)
      (NotOwner (Some 0) ∷ PlateInZone 0 ∷ Worn ∷ [])
  pub late_watch : AtPress (late free) watch (Yield 0)
      (NotParty ∷ Shut Closed ∷ NotOwner None ∷ Worn ∷ [])

pub record ReleaseCauses : Type 0 where
  pub free_loader : AtPress free 0 (Release 0) (NotOwner None ∷ [])
  pub free_press : AtPress free 1 (Release 0) (NotOwner None ∷ [])
  pub given_loader : AtPress given 0 (Release 0) (NotOwner (Some 1) ∷ PlateInZone 0 ∷ [])
  pub given_press : AtPress given 1 (Release 0) (PlateInZone 0 ∷ [])
  pub moving_loader : AtPress moving 0 (Release 0) (Shut Moving ∷ NotOwner (Some 1) ∷ [])
  pub moving_press : AtPress moving 1 (Release 0) (Shut Moving ∷ [])
  pub outward : AtPress open_outward 1 (Release 0) []
  pub not_owner : AtPress (owned_by_loader true) 1 (Release 0) (NotOwner (Some 0) ∷ [])
  pub late_call : AtPress (late given_back) 1 (Release 0)
      (NotOwner (Some 0) ∷ PlateInZone 0 ∷ Worn ∷ [])
  pub late_watch : AtPress (late free) watch (Release 0) (NotParty ∷ NotOwner None ∷ Worn ∷ [])

pub record TakeCauses : Type 0 where
  pub free_loader : AtPress free 0 (Take 0) (NotOwner None ∷ NoPlate ∷ [])
  pub moving_loader : AtPress moving 0 (Take 0) (NotOwner (Some 1) ∷ NoPlate ∷ [])
  pub moving_press : AtPress moving 1 (Take 0) (NoPlate ∷ [])
  pub given_loader : AtPress given 0 (Take 0) (NotOwner (Some 1) ∷ [])
  pub given_press : AtPress given 1 (Take 0) []
  pub given_back_loader : AtPress given_back 0 (Take 0) []
  pub given_back_press : AtPress given_back 1 (Take 0) (NotOwner (Some 0) ∷ [])
  pub late_call : AtPress (late given) 0 (Take 0) (NotOwner (Some 1) ∷ Worn ∷ [])
  pub late_watch : AtPress (late free) watch (Take 0)
      (NotParty ∷ NotOwner None ∷ NoPlate ∷ Worn ∷ [])

pub record PoseCauses : Type 0 where
  pub not_owner : AtPress free 1 (SetPose 3) (NotOwner None ∷ [])
  pub jump : AtPress free 1 (SetPose 2) (Jump ∷ [])
  pub loader : AtPress free 0 (SetPose 3) (NoPose ∷ [])
  pub no_pose : AtPress free 1 (SetPose 4) (NoPose ∷ [])
  pub full : AtPress moving 1 (SetPose 0) (PlaceFull ∷ [])
  pub opens : AtPress moving 1 (SetPose 1) []
  pub jump_onto_full : AtPress open_outward 1 (SetPose 0) (PlaceFull ∷ Jump ∷ [])
  pub same_pose : AtPress open_outward 1 (SetPose 1) (Jump ∷ [])
  pub moves : AtPress open_outward 1 (SetPose 3) []
  pub plate : AtPress given 1 (SetPose 3) (PlateInZone 0 ∷ [])
  pub plate_closes : AtPress given 1 (SetPose 2) (PlateInZone 0 ∷ Jump ∷ [])
  pub plate_same_pose : AtPress given 1 (SetPose 0) (Jump ∷ [])
  pub anothers : AtPress given_back 1 (SetPose 3) (NotOwner (Some 0) ∷ PlateInZone 0 ∷ [])
  pub anothers_same_pose : AtPress given_back 1 (SetPose 1) (Jump ∷ [])
  pub anothers_turns : AtPress given_back 1 (SetPose 0)
      (NotOwner (Some 0) ∷ PlateInZone 0 ∷ Jump ∷ [])
  pub late_moves : AtPress (late moving) 1 (SetPose 3) (Worn ∷ Stopped ∷ [])
  pub late_opens : AtPress (late moving) 1 (SetPose 0) (PlaceFull ∷ Worn ∷ [])
  pub late_loader : AtPress (late free) 0 (SetPose 0) (NoPose ∷ Worn ∷ [])

pub record WatchCauses : Type 0 where
  pub inquire : AtPress given 0 (Inquire 0) []
  pub inquire_late : AtPress (late given) watch (Inquire 0) []
  pub inquire_past_the_end : AtPress given 1 (Inquire 1) (NotParty ∷ [])
  pub stop : AtPress given watch Stop []
  pub stop_by_loader : AtPress given 0 Stop (NotParty ∷ [])
  pub stop_late : AtPress (late given) watch Stop (Worn ∷ Stopped ∷ [])
  -- not stopped, at the last stamp
  pub stop_worn_by_press : AtPress (with_last_stamp given) 1 Stop (NotParty ∷ Worn ∷ [])
  pub stop_worn : AtPress (with_last_stamp given) watch Stop (Worn ∷ [])
  pub resume_worn_by_press : AtPress (with_last_stamp given) 1 Resume (NotParty ∷ Worn ∷ NotStopped ∷ [])
  pub stop_late_by_press : AtPress (late given) 1 Stop (NotParty ∷ Worn ∷ Stopped ∷ [])
  pub resume : AtPress given watch Resume (NotStopped ∷ [])
  pub resume_by_loader : AtPress given 0 Resume (NotParty ∷ NotStopped ∷ [])
  pub resume_late : AtPress (late given) watch Resume (Worn ∷ [])
  pub resume_late_by_press : AtPress (late given) 1 Resume (NotParty ∷ Worn ∷ [])

-- the eighth zone, 7, is machine 3's and 2's: what a refusal names is this zone, and its owner
pub record LastZoneCauses : Type 0 where
  pub claim_shut : AtLastZone (interior None Closed false) false 2 (Claim 7) (Shut Closed ∷ [])
  pub claim_host : AtLastZone (interior None Closed false) false 3 (Claim 7) []
  pub claim_stranger : AtLastZone (interior None Closed false) false 1 (Claim 7) (NotParty ∷ [])
  pub claim_past_the_end : AtLastZone (interior None Closed false) false 0 (Claim 8)
      (NotParty ∷ Shut Closed ∷ [])
  pub claim_held : AtLastZone (interior (Some 3) Moving false) false 2 (Claim 7)
      (Held 3 ∷ Shut Moving ∷ [])
  pub claim_held_by_guest : AtLastZone (interior (Some 2) OpenIn false) false 3 (Claim 7) (Held 2 ∷ [])
  pub give_anothers : AtLastZone (interior (Some 2) OpenIn true) false 3 (Give 7)
      (NotOwner (Some 2) ∷ PlateInZone 7 ∷ WrongWay ∷ [])
  pub give : AtLastZone (interior (Some 2) OpenIn false) false 2 (Give 7) []
  pub give_full : AtLastZone (interior (Some 2) OpenIn false) true 2 (Give 7) (PlaceFull ∷ [])
  pub give_outward : AtLastZone (interior (Some 3) OpenOut false) false 3 (Give 7) (NoPlate ∷ [])
  pub give_full_outward : AtLastZone (interior (Some 3) OpenOut false) true 3 (Give 7) []
  pub yield : AtLastZone (interior (Some 3) OpenIn true) false 2 (Yield 7)
      (NotOwner (Some 3) ∷ PlateInZone 7 ∷ [])
  pub take : AtLastZone (interior (Some 3) OpenIn true) false 2 (Take 7) (NotOwner (Some 3) ∷ [])
  pub release : AtLastZone (interior (Some 3) OpenIn true) false 2 (Release 7)
      (NotOwner (Some 3) ∷ PlateInZone 7 ∷ [])
  pub pose_free : AtLastZone (interior None Closed false) false 3 (SetPose 0) (NotOwner None ∷ [])
  pub pose_anothers : AtLastZone (interior (Some 2) OpenIn true) false 3 (SetPose 0)
      (NotOwner (Some 2) ∷ PlateInZone 7 ∷ [])
  pub pose_full : AtLastZone (interior (Some 3) Moving false) true 3 (SetPose 1) (PlaceFull ∷ [])
  pub pose_opens : AtLastZone (interior (Some 3) Moving false) false 3 (SetPose 1) []
  pub pose_jumps : AtLastZone (interior (Some 3) Closed false) false 3 (SetPose 1) (Jump ∷ [])
  pub pose_of_seventh : AtLastZone (interior (Some 3) OpenIn true) false 2 (SetPose 3)
      (NotOwner None ∷ [])
  pub anothers_pose : AtLastZone (interior (Some 3) OpenIn true) false 3 (SetPose 3)
      (PlateInZone 7 ∷ NoPose ∷ [])
  pub inquire : AtLastZone (interior None Closed false) false 0 (Inquire 7) []
  pub inquire_past_the_end : AtLastZone (interior None Closed false) false 0 (Inquire 8)
      (NotParty ∷ [])

-- of two gates the lower one that bars a pose is named, and its owner
pub record BothGatesCauses : Type 0 where
  pub both : AtBothGates (interior (Some 1) OpenIn true) (interior (Some 2) OpenIn true) 0 (SetPose 0)
      (NotOwner (Some 1) ∷ PlateInZone 0 ∷ [])
  pub second : AtBothGates (interior (Some 0) OpenIn false) (interior (Some 2) OpenIn true) 0 (SetPose 0)
      (NotOwner (Some 2) ∷ PlateInZone 1 ∷ [])
  pub owner_of_second : AtBothGates (interior (Some 0) OpenIn true) (interior (Some 2) OpenIn false) 0 (SetPose 0)
      (NotOwner (Some 2) ∷ PlateInZone 0 ∷ [])
  pub neither : AtBothGates (interior (Some 0) OpenIn false) (interior (Some 0) Closed false) 0 (SetPose 0)
      []
  pub jump : AtBothGates (interior (Some 0) Closed false) (interior (Some 0) Moving false) 0 (SetPose 1)
      (Jump ∷ [])
  pub jump_by_second : AtBothGates (interior (Some 0) Moving false) (interior (Some 0) Closed false) 0 (SetPose 1)
      (Jump ∷ [])

-- the numbers of the refusals, and each order by name, whatever a call or a refusal names
abbrev pub HasOrder : Call → List Refusal → Type 0
HasOrder c rs = order_of c ≡ map number_of rs

pub record OrdersByName : Type 0 where
  pub numbers : map number_of refusals
      ≡ 1 ∷ 2 ∷ 2 ∷ 2 ∷ 2 ∷ 3 ∷ 4 ∷ 4 ∷ 4 ∷ 4 ∷ 5 ∷ 5 ∷ 5 ∷ 5 ∷ 5 ∷ 6 ∷ 6 ∷ 6 ∷ 6 ∷ 7 ∷ 8 ∷ 9 ∷ 10 ∷ 12 ∷ 13 ∷ 14
      ∷ 15 ∷ []
  pub held : (o : ℕ) → number_of (Held o) ≡ 2
  pub not_owner : (o : Option ℕ) → number_of (NotOwner o) ≡ 5
  pub plate : (z : ℕ) → number_of (PlateInZone z) ≡ 6
  pub claim : (z : ℕ) → HasOrder (Claim z) (NotParty ∷ Stopped ∷ AlreadyMine ∷ Held 2 ∷ Shut Closed ∷ Worn ∷ [])
  pub give : (z : ℕ) → HasOrder (Give z)
      (NotParty ∷ Stopped ∷ NotOwner None ∷ PlateInZone 3 ∷ WrongWay ∷ NoPlate ∷ PlaceFull ∷ Worn ∷ [])
  pub yield : (z : ℕ) → HasOrder (Yield z) (NotParty ∷ NotOwner None ∷ PlateInZone 3 ∷ Shut Closed ∷ Worn ∷ [])
  pub take : (z : ℕ) → HasOrder (Take z) (NotParty ∷ NotOwner None ∷ NoPlate ∷ Worn ∷ [])
  pub release : (z : ℕ) → HasOrder (Release z) (NotParty ∷ NotOwner None ∷ PlateInZone 3 ∷ Shut Moving ∷ Worn ∷ [])
  pub pose : (p : ℕ) → HasOrder (SetPose p)
      (NoPose ∷ Stopped ∷ NotOwner None ∷ PlateInZone 3 ∷ Jump ∷ PlaceFull ∷ Worn ∷ [])
  pub inquire : (z : ℕ) → HasOrder (Inquire z) (NotParty ∷ [])
  pub stop : HasOrder Stop (NotParty ∷ Stopped ∷ Worn ∷ [])
  pub resume : HasOrder Resume (NotParty ∷ NotStopped ∷ Worn ∷ [])

-- a number that comes earlier in an order, the same, one that comes later, and one that isn't there
pub record Later : Type 0 where
  pub earlier : is_no_later (4 ∷ 5 ∷ 6 ∷ []) 4 6 ≡ true
  pub next : is_no_later (4 ∷ 5 ∷ 6 ∷ []) 4 5 ≡ true
  pub same : is_no_later (4 ∷ 5 ∷ 6 ∷ []) 5 5 ≡ true
  pub later : is_no_later (4 ∷ 5 ∷ 6 ∷ []) 6 4 ≡ false
  pub next_after : is_no_later (4 ∷ 5 ∷ 6 ∷ []) 5 4 ≡ false
  pub none : is_no_later (4 ∷ 5 ∷ 6 ∷ []) 4 7 ≡ false
  pub not_there : is_no_later (4 ∷ 5 ∷ 6 ∷ []) 7 5 ≡ false

pub record CausesAreMet : Type 0 where
  pub eight_zones_are_a_plan : plan_fault eight_table ≡ None
  pub claim : ClaimCauses
  pub give : GiveCauses
  pub yield : YieldCauses
  pub take : TakeCauses
  pub release : ReleaseCauses
  pub pose : PoseCauses
  pub watch : WatchCauses
  pub last_zone : LastZoneCauses
  pub both_gates : BothGatesCauses
  pub orders : OrdersByName
  pub later : Later
