-- Laws of every legal history from a sound opening, for every plan.
use Rattle.std.specs.Prelude.{◌≡◌, ◌≢◌, ℕ, ◌+◌, ◌<◌, Bool, true, false, List, [], ◌∷◌, ◌++◌, Some, IsTrue}
use Rattle.std.specs.Prelude.{◌↔◌}
use Rattle.plan_types.specs.declared.posture.Posture.{Posture}
use Rattle.plan_types.specs.declared.posture.Posture.TheVariants.{Moving, OpenIn}
use Rattle.plan_types.specs.declared.call.Call.{Call}
use Rattle.plan_types.specs.declared.call.Call.TheVariants.{Claim, Give, Yield, Take, Release, SetPose, Stop}
use Rattle.plan_types.specs.declared.call.Call.TheVariants.{Resume, Advance}
use Rattle.plan_types.specs.declared.table.Transfer.{Transfer}
use Rattle.plan_types.specs.declared.answer.Answer.TheVariants.{Done}
use Rattle.plan_types.specs.declared.answer.Event.{Event}
use Rattle.plan_types.specs.Table.{PlanTable, zone_count, place_count, host_of, guest_of, keeper_of, is_moving_pose}
use Rattle.plan_types.specs.Table.{enters, space_of}
use Rattle.plan_types.specs.Table.{posture_of, watch, pose_count, pose_row, machine_of, transfer_of}
use Rattle.plan_types.specs.Table.{is_source, is_sink}
use Rattle.plan_types.specs.Plan.{IsPlan}
use Rattle.plan_rules.specs.declared.state.State.{State}
use Rattle.plan_rules.specs.State.{zone_at, owner_of, posture_at, is_full, plates_for, plates_of}
use Rattle.plan_rules.specs.Sound.{IsSound, is_open}
use Rattle.plan_rules.specs.Refusals.{owns}
use Rattle.plan_rules.specs.Reply.{reply}
use Rattle.plan_rules.specs.History.{after, IsLegal, own_events, done_count, Holds, Moves, posture_by_events}
use Rattle.plan_rules.specs.History.{IsStopped}
use Rattle.plan_rules.specs.History.{come, gone}

-- a law holds of each prefix of a history
abbrev pub Throughout : (List Event → Type 0) → List Event → Type 0
Throughout Law h = (before more : List Event) → h ≡ before ++ more → Law before

-- so what a test finds throughout a history it finds of each prefix
abbrev pub ThroughoutIsOfPrefixes : Type 0
ThroughoutIsOfPrefixes =
    (test : List Event → Bool) (before more : List Event) → Throughout (λ h. IsTrue (test h)) (before ++ more)
    → IsTrue (test before)

-- a call that was Done
abbrev pub done : ℕ → Call → Event
done m c = record { machine = m; call = c; answer = Done }

-- two machines never hold the same zone; only who enters its space can hold it, and exactly the holder owns it in the
-- state after
pub record OneHolder (t : PlanTable) (s : State) (h : List Event) : Type 0 where
  pub alone : (m n z : ℕ) → Holds t s h m z → Holds t s h n z → m ≡ n
  pub party : (m z : ℕ) → z < zone_count t → Holds t s h m z → IsTrue (enters t m z)
  pub owner : (m z : ℕ) → Holds t s h m z ↔ IsTrue (owns (after t s h) m z)

-- a space has one machine at a time: two machines never hold zones of one space
abbrev pub OneAtATime : PlanTable → State → List Event → Type 0
OneAtATime t s h =
    (m n y z : ℕ) → y < zone_count t → z < zone_count t → space_of t y ≡ space_of t z → Holds t s h m y
    → Holds t s h n z → m ≡ n

-- a zone that moves is held by its host; only its host changes its posture, while it holds the zone
pub record MoverIsHost (t : PlanTable) (s : State) (h : List Event) : Type 0 where
  pub moves : (z : ℕ) → z < zone_count t → Moves t s h z → Holds t s h (host_of t z) z
  pub changes : (before rest : List Event) (m p : ℕ) → h ≡ before ++ done m (SetPose p) ∷ rest
      → (z : ℕ) (q : Posture) → z < zone_count t → posture_of t p z ≡ Some q
      → posture_at (after t s before) z ≢ q → (host_of t z ≡ m) × Holds t s before m z

-- if a zone's guest holds it, the zone is open, by the events
abbrev pub GuestOnlyWhileOpen : PlanTable → State → List Event → Type 0
GuestOnlyWhileOpen t s h =
    (z : ℕ) → z < zone_count t → Holds t s h (guest_of t z) z → IsTrue (is_open (posture_by_events t s h z))

-- the plates of the state after are those of the opening, and those that have come from outside, without those that
-- have gone there
abbrev pub PlatesAreCounted : PlanTable → State → List Event → Type 0
PlatesAreCounted t s h = plates_of t (after t s h) + gone t s h ≡ plates_of t s + come t s h

-- no place of the plan is a source or a sink
abbrev pub HasNoEnds : PlanTable → Type 0
HasNoEnds t = (p : ℕ) → p < place_count t → (is_source t p ≡ false) × (is_sink t p ≡ false)

-- where no place is a source or a sink, the state after has as many plates as the opening
abbrev pub PlatesAreKept : PlanTable → State → List Event → Type 0
PlatesAreKept t s h = HasNoEnds t → plates_of t (after t s h) ≡ plates_of t s

-- what holds in the state before an advance that is Done: the machine keeps the place; a plate comes only to a source
-- that has none, and none coming, and goes only from a sink that has one
pub record AdvancesFit (t : PlanTable) (s : State) (h : List Event) : Type 0 where
  pub own : (before rest : List Event) (m p : ℕ) → h ≡ before ++ done m (Advance p) ∷ rest
      → (p < place_count t) × (keeper_of t p ≡ m)
  pub comes : (before rest : List Event) (m p : ℕ) → h ≡ before ++ done m (Advance p) ∷ rest
      → is_full (after t s before) p ≡ false → (is_source t p ≡ true) × (plates_for t (after t s before) p ≡ 0)
  pub goes : (before rest : List Event) (m p : ℕ) → h ≡ before ++ done m (Advance p) ∷ rest
      → is_full (after t s before) p ≡ true → is_sink t p ≡ true

-- the stamp counts the Done events
abbrev pub StampCountsChanges : PlanTable → State → List Event → Type 0
StampCountsChanges t s h = (after t s h).stamp ≡ s.stamp + done_count h

-- while others make the events, a machine keeps each zone that it holds, with posture and flag, its own places, and the
-- postures of the zones that it hosts, held or not
pub record RightLasts (t : PlanTable) (s : State) (before more : List Event) : Type 0 where
  pub held : (m z : ℕ) → z < zone_count t → own_events more m ≡ [] → Holds t s before m z
      → Holds t s (before ++ more) m z
  pub zone : (m z : ℕ) → z < zone_count t → own_events more m ≡ [] → Holds t s before m z
      → zone_at (after t s (before ++ more)) z ≡ zone_at (after t s before) z
  pub places : (p : ℕ) → p < place_count t → own_events more (keeper_of t p) ≡ []
      → is_full (after t s (before ++ more)) p ≡ is_full (after t s before) p
  pub posture : (z : ℕ) → z < zone_count t → own_events more (host_of t z) ≡ []
      → posture_by_events t s (before ++ more) z ≡ posture_by_events t s before z

-- the posture by the events is the one in the state after
abbrev pub PostureByEvents : PlanTable → State → List Event → Type 0
PostureByEvents t s h =
    (z : ℕ) → z < zone_count t → posture_by_events t s h z ≡ posture_at (after t s h) z

abbrev pub StaysSound : PlanTable → State → List Event → Type 0
StaysSound t s h = IsSound t (after t s h)

-- what holds in the state before a pose that is Done
pub record PosesFit (t : PlanTable) (s : State) (h : List Event) : Type 0 where
  -- the machine has the pose
  pub own : (before rest : List Event) (m p : ℕ) → h ≡ before ++ done m (SetPose p) ∷ rest
      → (p < pose_count t) × (machine_of t p ≡ m)
  -- a pose that can be taken only after moving is taken only while all zones that the machine hosts move
  pub no_jump : (before rest : List Event) (m p : ℕ) → h ≡ before ++ done m (SetPose p) ∷ rest
      → IsTrue (pose_row t p).after_moving → (z : ℕ) → z < zone_count t → host_of t z ≡ m
      → posture_at (after t s before) z ≡ Moving
  -- a pose that gives any zone Moving is taken only while the machine owns every zone that it hosts, also those that
  -- the pose leaves alone
  pub all_held : (before rest : List Event) (m p y : ℕ) → h ≡ before ++ done m (SetPose p) ∷ rest
      → posture_of t p y ≡ Some Moving → (z : ℕ) → z < zone_count t → host_of t z ≡ m
      → owner_of (after t s before) z ≡ Some m
  -- and while no plate is in one
  pub all_clear : (before rest : List Event) (m p y : ℕ) → h ≡ before ++ done m (SetPose p) ∷ rest
      → posture_of t p y ≡ Some Moving → (z : ℕ) → z < zone_count t → host_of t z ≡ m
      → (zone_at (after t s before) z).flag ≡ false
  -- a zone becomes open inward only while the place that a plate would come to has none, and none coming
  pub opens_onto_empty : (before rest : List Event) (m p : ℕ) → h ≡ before ++ done m (SetPose p) ∷ rest
      → (z : ℕ) (way : Transfer) → z < zone_count t → posture_of t p z ≡ Some OpenIn
      → posture_at (after t s before) z ≢ OpenIn → transfer_of t z OpenIn ≡ Some way
      → plates_for t (after t s before) way.to ≡ 0

-- a machine holds a zone of the plan by its events, and owns it in the state after them
abbrev pub HasZone : PlanTable → State → List Event → ℕ → ℕ → Type 0
HasZone t s before m z = (z < zone_count t) × Holds t s before m z × (owner_of (after t s before) z ≡ Some m)

-- a machine has the zone that it hands over, takes a plate from, or leaves
pub record HandoverByHolder (t : PlanTable) (s : State) (h : List Event) : Type 0 where
  pub give : (before rest : List Event) (m z : ℕ) → h ≡ before ++ done m (Give z) ∷ rest → HasZone t s before m z
  pub yield : (before rest : List Event) (m z : ℕ) → h ≡ before ++ done m (Yield z) ∷ rest
      → HasZone t s before m z
  pub take : (before rest : List Event) (m z : ℕ) → h ≡ before ++ done m (Take z) ∷ rest → HasZone t s before m z
  pub release : (before rest : List Event) (m z : ℕ) → h ≡ before ++ done m (Release z) ∷ rest
      → HasZone t s before m z

-- the calls that are barred while the plant is stopped: claims, handovers of plates, movements and advances
abbrev pub is_barred : PlanTable → Call → Bool
is_barred t (Claim _) = true
is_barred t (Give _) = true
is_barred t (SetPose p) = is_moving_pose t p
is_barred t (Advance _) = true
is_barred t _ = false

-- a state, stopped or not
abbrev pub marked : State → Bool → State
marked s b = record s { stopped = b }

-- a stop bars these calls alone: all others, but Stop and Resume, are answered as if the plant weren't stopped
abbrev pub StopBarsNoOthers : Type 0
StopBarsNoOthers =
    (t : PlanTable) (s : State) (m : ℕ) (c : Call) → is_barred t c ≡ false → c ≢ Stop → c ≢ Resume
    → reply t (marked s true) m c ≡ reply t (marked s false) m c

-- the state after is stopped exactly if the events say so; while the plant is stopped, no barred call is Done, and no
-- pose that is Done gives any zone Moving; the watch alone stops and resumes, in turn
pub record StoppedUntilResumed (t : PlanTable) (s : State) (h : List Event) : Type 0 where
  pub mark : IsStopped s h ↔ IsTrue (after t s h).stopped
  pub barred : (before rest : List Event) (m : ℕ) (c : Call) → h ≡ before ++ done m c ∷ rest
      → IsStopped s before → is_barred t c ≡ false
  pub stands : (before rest : List Event) (m p z : ℕ) → h ≡ before ++ done m (SetPose p) ∷ rest
      → IsStopped s before → posture_of t p z ≢ Some Moving
  pub stop : (before rest : List Event) (m : ℕ) → h ≡ before ++ done m Stop ∷ rest
      → (m ≡ watch) × ¬ IsStopped s before
  pub resume : (before rest : List Event) (m : ℕ) → h ≡ before ++ done m Resume ∷ rest
      → (m ≡ watch) × IsStopped s before

-- every law of a legal history
pub record Lawful (t : PlanTable) (s : State) (h : List Event) : Type 0 where
  pub one_holder : OneHolder t s h
  pub one_at_a_time : OneAtATime t s h
  pub mover_is_host : MoverIsHost t s h
  pub guest_only_while_open : GuestOnlyWhileOpen t s h
  pub plates_are_counted : PlatesAreCounted t s h
  pub plates_are_kept : PlatesAreKept t s h
  pub stamp_counts_changes : StampCountsChanges t s h
  pub right_lasts : (before more : List Event) → h ≡ before ++ more → RightLasts t s before more
  pub posture_by_events : PostureByEvents t s h
  pub stays_sound : StaysSound t s h
  pub poses_fit : PosesFit t s h
  pub handover_by_holder : HandoverByHolder t s h
  pub advances_fit : AdvancesFit t s h
  pub stopped_until_resumed : StoppedUntilResumed t s h

-- so each law holds of a history of which every law holds
pub record LawfulSaysEach (t : PlanTable) (s : State) (h : List Event) : Type 0 where
  pub holder : Lawful t s h → OneHolder t s h
  pub space : Lawful t s h → OneAtATime t s h
  pub mover : Lawful t s h → MoverIsHost t s h
  pub guest : Lawful t s h → GuestOnlyWhileOpen t s h
  pub counted : Lawful t s h → PlatesAreCounted t s h
  pub plates : Lawful t s h → PlatesAreKept t s h
  pub stamp : Lawful t s h → StampCountsChanges t s h
  pub rights : Lawful t s h → (before more : List Event) → h ≡ before ++ more → RightLasts t s before more
  pub postures : Lawful t s h → PostureByEvents t s h
  pub sound : Lawful t s h → StaysSound t s h
  pub poses : Lawful t s h → PosesFit t s h
  pub handovers : Lawful t s h → HandoverByHolder t s h
  pub advances : Lawful t s h → AdvancesFit t s h
  pub stops : Lawful t s h → StoppedUntilResumed t s h

abbrev pub EachLawIsSaid : Type 0
EachLawIsSaid = (t : PlanTable) (s : State) (h : List Event) → LawfulSaysEach t s h

-- for every plan, and from every sound opening, all laws hold of each prefix of every legal history
abbrev pub EveryLegalHistoryIsLawful : Type 0
EveryLegalHistoryIsLawful =
    (t : PlanTable) (s : State) (h : List Event) → IsPlan t → IsSound t s → IsLegal t s h → Throughout (Lawful t s) h
