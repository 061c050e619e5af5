-- What each law says of a lift, in literal numbers, of every state and every history. The lift, 0, hosts both zones;
-- the lower floor, 1, is the guest at zone 0, the upper floor, 2, at zone 1. Place 0 is the lift's, place 2 the upper
-- floor's. Pose 0 moves both zones, 2 opens the upper one outward, 4 inward, both after moving.
use Rattle.std.specs.Prelude.{◌≡◌, ◌≢◌, ℕ, ◌+◌, ◌≤◌, true, false, List, [], ◌∷◌, ◌++◌, Some}
use Rattle.plan_types.specs.declared.posture.Posture.TheVariants.{Closed, Moving, OpenIn, OpenOut}
use Rattle.plan_types.specs.declared.call.Call.TheVariants.{Claim, Give, Yield, Take, Release, SetPose, Inquire, Stop}
use Rattle.plan_types.specs.declared.call.Call.TheVariants.{Resume}
use Rattle.plan_types.specs.declared.answer.Refusal.TheVariants.{NotParty, PlateInZone}
use Rattle.plan_types.specs.declared.answer.Answer.TheVariants.{Done, Refused}
use Rattle.plan_types.specs.declared.answer.Event.{Event}
use Rattle.plan_types.specs.Examples.{lift_table}
use Rattle.plan_rules.specs.declared.state.State.{State}
use Rattle.plan_rules.specs.State.{zone_at, owner_of, posture_at, is_full, plates_for, plates_of}
use Rattle.plan_rules.specs.Sound.{IsSound, IsLawfulZone}
use Rattle.plan_rules.specs.Reply.{reply}
use Rattle.plan_rules.specs.History.{after, IsLegal, own_events, done_count, Holds, Moves, posture_by_events, IsStopped}
use Rattle.plan_rules.specs.Laws.{done, marked, OneHolder, MoverIsHost, GuestOnlyWhileOpen, PlatesAreKept}
use Rattle.plan_rules.specs.Laws.{StampCountsChanges, RightLasts, PostureByEvents, StaysSound, PosesFit}
use Rattle.plan_rules.specs.Laws.{HandoverByHolder, StoppedUntilResumed, Lawful, EveryLegalHistoryIsLawful}
use Rattle.plan_rules.specs.Laws.{StopBarsNoOthers, is_barred}
use Rattle.plan_rules.specs.RefusalLaws.{IsRefusedBy, RefusalsTell}

-- the state of the lift after a history
abbrev pub state : State → List Event → State
state s h = after lift_table s h

abbrev pub HoldsZone : State → List Event → ℕ → ℕ → Type 0
HoldsZone s h m z = Holds lift_table s h m z

-- of the upper zone, and of zones that no plan of a lift has
pub record LiftHolders (s : State) (h : List Event) : Type 0 where
  pub alone : OneHolder lift_table s h → HoldsZone s h 0 1 → ¬ HoldsZone s h 2 1
  pub alone_past_the_end : OneHolder lift_table s h → HoldsZone s h 3 9 → ¬ HoldsZone s h 4 9
  pub stranger : OneHolder lift_table s h → ¬ HoldsZone s h 1 1
  pub far_stranger : OneHolder lift_table s h → ¬ HoldsZone s h 9 1
  pub owner : OneHolder lift_table s h → HoldsZone s h 2 1 → owner_of (state s h) 1 ≡ Some 2
  pub holder : OneHolder lift_table s h → owner_of (state s h) 1 ≡ Some 2 → HoldsZone s h 2 1
  pub holder_past_the_end : OneHolder lift_table s h → owner_of (state s h) 9 ≡ Some 4 → HoldsZone s h 4 9
  pub moves : MoverIsHost lift_table s h → Moves lift_table s h 1 → HoldsZone s h 0 1
  pub guest : GuestOnlyWhileOpen lift_table s h → HoldsZone s h 2 1 → posture_by_events lift_table s h 1 ≢ Closed
  pub guest_stands : GuestOnlyWhileOpen lift_table s h → HoldsZone s h 2 1 → ¬ Moves lift_table s h 1

pub record LiftCounts (s : State) (h : List Event) : Type 0 where
  pub plates : PlatesAreKept lift_table s h → plates_of lift_table s ≡ 3 → plates_of lift_table (state s h) ≡ 3
  pub stamp : StampCountsChanges lift_table s h → done_count h ≡ 5 → (state s h).stamp ≡ s.stamp + 5
  pub posture : PostureByEvents lift_table s h → posture_at (state s h) 1 ≡ OpenOut
      → posture_by_events lift_table s h 1 ≡ OpenOut
  pub one_plate : StaysSound lift_table s h → plates_for lift_table (state s h) 2 ≤ 1
  pub zone : StaysSound lift_table s h → IsLawfulZone lift_table 1 (zone_at (state s h) 1)
  pub last_stamp : StaysSound lift_table s h → (state s h).stamp ≤ 1048575

-- while the upper floor, or the lift, makes none of the events
pub record LiftRights (s : State) (before more : List Event) : Type 0 where
  pub held : RightLasts lift_table s before more → own_events more 2 ≡ [] → HoldsZone s before 2 1
      → HoldsZone s (before ++ more) 2 1
  pub zone : RightLasts lift_table s before more → own_events more 2 ≡ [] → HoldsZone s before 2 1
      → zone_at (state s (before ++ more)) 1 ≡ zone_at (state s before) 1
  pub place : RightLasts lift_table s before more → own_events more 2 ≡ []
      → is_full (state s (before ++ more)) 2 ≡ is_full (state s before) 2
  pub posture : RightLasts lift_table s before more → own_events more 0 ≡ []
      → posture_by_events lift_table s (before ++ more) 1 ≡ posture_by_events lift_table s before 1

-- a pose of the lift that is Done within a history, by machine `m` as the event says
pub record LiftPoses (s : State) (before rest : List Event) (m : ℕ) : Type 0 where
  pub changes : MoverIsHost lift_table s (before ++ done m (SetPose 2) ∷ rest)
      → posture_at (state s before) 1 ≢ OpenOut → (m ≡ 0) × HoldsZone s before 0 1
  pub own : PosesFit lift_table s (before ++ done m (SetPose 4) ∷ rest) → m ≡ 0
  pub past_the_end : ¬ PosesFit lift_table s (before ++ done m (SetPose 5) ∷ rest)
  pub no_jump : PosesFit lift_table s (before ++ done 0 (SetPose 2) ∷ rest) → posture_at (state s before) 1 ≡ Moving
  pub all_held : PosesFit lift_table s (before ++ done 0 (SetPose 0) ∷ rest) → owner_of (state s before) 1 ≡ Some 0
  pub all_clear : PosesFit lift_table s (before ++ done 0 (SetPose 0) ∷ rest)
      → (zone_at (state s before) 1).flag ≡ false
  pub opens_onto_empty : PosesFit lift_table s (before ++ done 0 (SetPose 4) ∷ rest)
      → posture_at (state s before) 1 ≢ OpenIn → plates_for lift_table (state s before) 0 ≡ 0

-- a handover of the upper zone that is Done within a history; there is no zone 2
pub record LiftHandovers (s : State) (before rest : List Event) (m : ℕ) : Type 0 where
  pub give : HandoverByHolder lift_table s (before ++ done m (Give 1) ∷ rest) → HoldsZone s before m 1
  pub yield : HandoverByHolder lift_table s (before ++ done m (Yield 1) ∷ rest) → HoldsZone s before m 1
  pub take : HandoverByHolder lift_table s (before ++ done m (Take 1) ∷ rest) → HoldsZone s before m 1
  pub release : HandoverByHolder lift_table s (before ++ done m (Release 1) ∷ rest) → HoldsZone s before m 1
  pub owner : HandoverByHolder lift_table s (before ++ done m (Take 1) ∷ rest)
      → owner_of (state s before) 1 ≡ Some m
  pub no_zone : ¬ HandoverByHolder lift_table s (before ++ done m (Give 2) ∷ rest)

-- a call that is Done within a history, and the plant that is stopped
pub record LiftStops (s : State) (before rest : List Event) (m : ℕ) : Type 0 where
  pub marked : StoppedUntilResumed lift_table s before → IsStopped s before → (state s before).stopped ≡ true
  pub by_mark : StoppedUntilResumed lift_table s before → (state s before).stopped ≡ true → IsStopped s before
  pub claim : StoppedUntilResumed lift_table s (before ++ done m (Claim 1) ∷ rest) → ¬ IsStopped s before
  pub give : StoppedUntilResumed lift_table s (before ++ done m (Give 1) ∷ rest) → ¬ IsStopped s before
  pub moves : StoppedUntilResumed lift_table s (before ++ done m (SetPose 0) ∷ rest) → ¬ IsStopped s before
  pub stop : StoppedUntilResumed lift_table s (before ++ done m Stop ∷ rest) → (m ≡ 30) × ¬ IsStopped s before
  pub resume : StoppedUntilResumed lift_table s (before ++ done m Resume ∷ rest) → (m ≡ 30) × IsStopped s before

-- the same state, stopped or not: what a stop doesn't bar; and refusals and their causes
pub record LiftReplies (s : State) (m : ℕ) : Type 0 where
  pub take : StopBarsNoOthers
      → reply lift_table (marked s true) m (Take 1) ≡ reply lift_table (marked s false) m (Take 1)
  pub yield : StopBarsNoOthers
      → reply lift_table (marked s true) m (Yield 1) ≡ reply lift_table (marked s false) m (Yield 1)
  pub release : StopBarsNoOthers
      → reply lift_table (marked s true) m (Release 1) ≡ reply lift_table (marked s false) m (Release 1)
  pub inquire : StopBarsNoOthers
      → reply lift_table (marked s true) m (Inquire 1) ≡ reply lift_table (marked s false) m (Inquire 1)
  pub opens : StopBarsNoOthers
      → reply lift_table (marked s true) m (SetPose 2) ≡ reply lift_table (marked s false) m (SetPose 2)
  pub plate : RefusalsTell → IsSound lift_table s → reply lift_table s m (Yield 1) ≡ Refused (PlateInZone 1)
      → (zone_at s 1).flag ≡ true
  pub other_zone : RefusalsTell → IsSound lift_table s → reply lift_table s m (Yield 1) ≢ Refused (PlateInZone 0)
  pub party : RefusalsTell → IsSound lift_table s → reply lift_table s 2 (Claim 1) ≢ Refused NotParty
  pub stopped : RefusalsTell → IsSound lift_table s → s.stopped ≡ true → reply lift_table s m (Claim 1) ≢ Done
  pub refused : RefusalsTell → IsSound lift_table s → (zone_at s 1).flag ≡ true
      → IsRefusedBy lift_table s m (Give 1) (PlateInZone 1)
  pub flagged : RefusalsTell → IsSound lift_table s → (zone_at s 1).flag ≡ true
      → reply lift_table s m (Release 1) ≢ Done

-- every legal history from a sound state of the lift is lawful, and so is each prefix of it
pub record LiftHistories (s : State) (before more : List Event) : Type 0 where
  pub whole : EveryLegalHistoryIsLawful → IsSound lift_table s → IsLegal lift_table s before
      → Lawful lift_table s before
  pub shorter : EveryLegalHistoryIsLawful → IsSound lift_table s → IsLegal lift_table s (before ++ more)
      → Lawful lift_table s before
  pub rights : Lawful lift_table s (before ++ more) → RightLasts lift_table s before more

pub record LiftLaws (s : State) (before rest : List Event) (m : ℕ) : Type 0 where
  pub holders : LiftHolders s before
  pub counts : LiftCounts s before
  pub rights : LiftRights s before rest
  pub poses : LiftPoses s before rest m
  pub handovers : LiftHandovers s before rest m
  pub stops : LiftStops s before rest m
  pub replies : LiftReplies s m
  pub histories : LiftHistories s before rest

-- which calls a stop bars: of a lift, which has no advance, claims, gives and poses that move
pub record CallsAreBarred : Type 0 where
  pub claim : is_barred lift_table (Claim 1) ≡ true
  pub give : is_barred lift_table (Give 1) ≡ true
  pub moves : is_barred lift_table (SetPose 0) ≡ true
  pub opens : is_barred lift_table (SetPose 2) ≡ false
  pub no_pose : is_barred lift_table (SetPose 5) ≡ false
  pub yield : is_barred lift_table (Yield 1) ≡ false
  pub take : is_barred lift_table (Take 1) ≡ false
  pub release : is_barred lift_table (Release 1) ≡ false
  pub inquire : is_barred lift_table (Inquire 1) ≡ false
  pub stop : is_barred lift_table Stop ≡ false
  pub resume : is_barred lift_table Resume ≡ false

pub record LawsOfLift : Type 0 where
  pub laws : (s : State) (before rest : List Event) (m : ℕ) → LiftLaws s before rest m
  pub barred : CallsAreBarred
