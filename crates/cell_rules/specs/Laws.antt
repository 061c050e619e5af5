-- Laws of every legal history from a sound opening.
use Rattle.std.specs.Prelude.{◌≡◌, ◌≢◌, ◌+◌, pos, Bool, true, false, not, List, [], ◌∷◌, ◌++◌, Some, IsTrue, ◌↔◌}
use Rattle.cell_rules.specs.Types.{Place, FeedEnd, PressIn, PressOut, DepEnd, Machine, Feed, Robot, Press, Deposit}
use Rattle.cell_rules.specs.Types.{Watch, Zone, Z1, Z2, Z3, Z4, Z5, Z6, Transfer, Posture, Closed, Moving, OpenIn}
use Rattle.cell_rules.specs.Types.{Pose, Turning, Travelling, Running, Call, Claim, Give, Yield, Take, Release}
use Rattle.cell_rules.specs.Types.{SetPose, Advance, Stop, Resume, Done, Event, host_of, guest_of, transfer_of}
use Rattle.cell_rules.specs.Types.{posture_of, keeper_of}
use Rattle.cell_types.specs.declared.machine.Machine.TheVariants.{Table as TableMachine}
use Rattle.cell_rules.specs.ModelState.{ModelState, zone_at, is_full, plates_of, one_if}
use Rattle.cell_rules.specs.Sound.{IsSound, is_party, is_open}
use Rattle.cell_rules.specs.Refusals.{owns, posture_at, is_moving_pose, passes_through_moving}
use Rattle.cell_rules.specs.History.{after, IsLegal, own_events, done_count, changes_by_others, Holds, Moves}
use Rattle.cell_rules.specs.History.{PressMoves, posture_by_events, plates_at, plates_in_transfer, IsStopped}
use Rattle.cell_rules.specs.RefusalLaws.{RefusalsTellAlong}

-- a law holds of each prefix of a history
abbrev pub Throughout : (List Event → Type 0) → List Event → Type 0
Throughout Law h = (before more : List Event) → h ≡ before ++ more → Law before

-- two machines never hold the same zone; only a zone's host or guest can hold it, and exactly the holder owns it in the
-- state after
pub record OneHolder (s : ModelState) (h : List Event) : Type 0 where
  pub alone : (m n : Machine) (z : Zone) → Holds s h m z → Holds s h n z → m ≡ n
  pub party : (m : Machine) (z : Zone) → Holds s h m z → IsTrue (is_party m z)
  pub owner : (m : Machine) (z : Zone) → Holds s h m z ↔ IsTrue (owns (after s h) m z)

-- a moving zone is held by its host, so the robot never holds the interior of a press that moves
pub record MoverIsHost (s : ModelState) (h : List Event) : Type 0 where
  pub host : (z : Zone) → Moves s h z → Holds s h (host_of z) z
  pub press : PressMoves s h → ¬ Holds s h Robot Z3

-- if a zone's guest holds it, the zone is open, by the events
abbrev pub GuestOnlyWhileOpen : ModelState → List Event → Type 0
GuestOnlyWhileOpen s h = (z : Zone) → Holds s h (guest_of z) z → IsTrue (is_open (posture_by_events s h z))

-- each place and each zone has one plate or none, counted by the events; the state after says the same, and has as many
-- plates as the opening
pub record PlatesAreKept (s : ModelState) (h : List Event) : Type 0 where
  pub at_place : (p : Place) → plates_at s h p ≡ pos (one_if (is_full (after s h) p))
  pub in_transfer : (z : Zone) → plates_in_transfer s h z ≡ pos (one_if (zone_at (after s h) z).flag)
  pub total : plates_of (after s h) ≡ plates_of s

-- the stamp counts the Done events
abbrev pub StampCountsChanges : ModelState → List Event → Type 0
StampCountsChanges s h = (after s h).stamp ≡ s.stamp + done_count h

-- the feed belt runs with a plate at its end only while feed owns z1, the deposit belt only while its end is empty
pub record RunsClear (s : ModelState) : Type 0 where
  pub feed : posture_at s Z6 ≡ Moving → IsTrue (is_full s FeedEnd) → IsTrue (owns s Feed Z1)
  pub entry : posture_at s Z4 ≡ Moving → is_full s DepEnd ≡ false
  pub end : posture_at s Z5 ≡ Moving → is_full s DepEnd ≡ false

-- the same by the events and in the state after
pub record BeltsRunClear (s : ModelState) (h : List Event) : Type 0 where
  pub feed : Moves s h Z6 → plates_at s h FeedEnd ≡ pos 1 → Holds s h Feed Z1
  pub entry : Moves s h Z4 → plates_at s h DepEnd ≡ pos 0
  pub end : Moves s h Z5 → plates_at s h DepEnd ≡ pos 0
  pub state : RunsClear (after s h)

-- while others make the events, a machine keeps each zone that it holds, with posture and flag, its own places, and the
-- postures of the zones that it hosts, held or not
pub record RightLasts (s : ModelState) (before more : List Event) : Type 0 where
  pub held : (m : Machine) (z : Zone) → own_events more m ≡ [] → Holds s before m z → Holds s (before ++ more) m z
  pub zone : (m : Machine) (z : Zone) → own_events more m ≡ [] → Holds s before m z
      → zone_at (after s (before ++ more)) z ≡ zone_at (after s before) z
  pub places : (p : Place) → own_events more (keeper_of p) ≡ []
      → is_full (after s (before ++ more)) p ≡ is_full (after s before) p
  pub posture : (z : Zone) → own_events more (host_of z) ≡ []
      → posture_by_events s (before ++ more) z ≡ posture_by_events s before z

-- the posture by the events is the one in the state after
abbrev pub PostureByEvents : ModelState → List Event → Type 0
PostureByEvents s h = (z : Zone) → posture_by_events s h z ≡ posture_at (after s h) z

abbrev pub StaysSound : ModelState → List Event → Type 0
StaysSound s h = IsSound (after s h)

abbrev pub done : Machine → Call → Event
done m c = record { machine = m; call = c; answer = Done }

-- what holds in the state before a Done event
pub record EventsFit (s : ModelState) (h : List Event) : Type 0 where
  -- table and press take a pose that isn't moving only while all their zones move
  pub no_jump : (before rest : List Event) (m : Machine) (p : Pose)
      → h ≡ before ++ done m (SetPose p) ∷ rest → IsTrue (passes_through_moving m)
      → IsTrue (not (is_moving_pose p)) → (z : Zone) → host_of z ≡ m
      → posture_at (after s before) z ≡ Moving
  -- a zone becomes open inward only while the place that a plate would come to is empty
  pub opens_onto_empty : (before rest : List Event) (m : Machine) (p : Pose)
      → h ≡ before ++ done m (SetPose p) ∷ rest → (z : Zone) (row : Transfer)
      → posture_of m p z ≡ Some OpenIn → posture_at (after s before) z ≢ OpenIn
      → transfer_of z OpenIn ≡ Some row → is_full (after s before) row.to ≡ false
  -- the press opens inward only while both its places are empty
  pub press_opens_empty : (before rest : List Event) (m : Machine) (p : Pose)
      → h ≡ before ++ done m (SetPose p) ∷ rest → posture_of m p Z3 ≡ Some OpenIn
      → posture_at (after s before) Z3 ≢ OpenIn
      → (is_full (after s before) PressIn ≡ false) × (is_full (after s before) PressOut ≡ false)
  -- a machine changes the posture of a zone only while it holds it
  pub pose_by_holder : (before rest : List Event) (m : Machine) (p : Pose)
      → h ≡ before ++ done m (SetPose p) ∷ rest → (z : Zone) (q : Posture) → posture_of m p z ≡ Some q
      → posture_at (after s before) z ≢ q → Holds s before m z
  -- a plate comes to a belt's end only while the belt runs
  pub feed_works_running : (before rest : List Event) → h ≡ before ++ done Feed Advance ∷ rest
      → posture_at (after s before) Z6 ≡ Moving
  pub deposit_works_running : (before rest : List Event) → h ≡ before ++ done Deposit Advance ∷ rest
      → (posture_at (after s before) Z4 ≡ Moving) × (posture_at (after s before) Z5 ≡ Moving)
  -- the press forges only while it holds its interior and is Closed
  pub press_works_closed : (before rest : List Event) → h ≡ before ++ done Press Advance ∷ rest
      → Holds s before Press Z3 × (posture_at (after s before) Z3 ≡ Closed)

-- the table takes any pose but turning, and the press any but travelling, only while all its zones move
pub record NoJump (s : ModelState) (h : List Event) : Type 0 where
  pub table : (before rest : List Event) (p : Pose) → h ≡ before ++ done TableMachine (SetPose p) ∷ rest
      → p ≢ Turning
      → ((zone_at (after s before) Z1).posture ≡ Moving) × ((zone_at (after s before) Z2).posture ≡ Moving)
  pub press : (before rest : List Event) (p : Pose) → h ≡ before ++ done Press (SetPose p) ∷ rest
      → p ≢ Travelling → (zone_at (after s before) Z3).posture ≡ Moving

-- a machine holds a zone by its events, and owns it in the state after them
abbrev pub HasZone : ModelState → List Event → Machine → Zone → Type 0
HasZone s before m z = Holds s before m z × ((zone_at (after s before) z).owner ≡ Some m)

-- a machine has the zone that it hands over, takes a plate from, or leaves
pub record HandoverByHolder (s : ModelState) (h : List Event) : Type 0 where
  pub give : (before rest : List Event) (m : Machine) (z : Zone) → h ≡ before ++ done m (Give z) ∷ rest
      → HasZone s before m z
  pub yield : (before rest : List Event) (m : Machine) (z : Zone) → h ≡ before ++ done m (Yield z) ∷ rest
      → HasZone s before m z
  pub take : (before rest : List Event) (m : Machine) (z : Zone) → h ≡ before ++ done m (Take z) ∷ rest
      → HasZone s before m z
  pub release : (before rest : List Event) (m : Machine) (z : Zone)
      → h ≡ before ++ done m (Release z) ∷ rest → HasZone s before m z

-- the calls that are barred while the cell is stopped: claims, handovers of plates and movements
abbrev pub is_barred : Call → Bool
is_barred (Claim _) = true
is_barred (Give _) = true
is_barred (SetPose Turning) = true
is_barred (SetPose Travelling) = true
is_barred (SetPose Running) = true
is_barred _ = false

-- the state after is stopped exactly if the events say so; while the cell is stopped, no barred call is Done; the watch
-- alone stops and resumes, in turn
pub record StoppedUntilResumed (s : ModelState) (h : List Event) : Type 0 where
  pub mark : IsStopped s h ↔ IsTrue (after s h).stopped
  pub barred : (before rest : List Event) (m : Machine) (c : Call) → h ≡ before ++ done m c ∷ rest
      → IsStopped s before → is_barred c ≡ false
  pub stop : (before rest : List Event) (m : Machine) → h ≡ before ++ done m Stop ∷ rest
      → (m ≡ Watch) × ¬ IsStopped s before
  pub resume : (before rest : List Event) (m : Machine) → h ≡ before ++ done m Resume ∷ rest
      → (m ≡ Watch) × IsStopped s before

-- the Done events are a machine's own and those of the others
abbrev pub ChangesAreCounted : List Event → Type 0
ChangesAreCounted h = (m : Machine) → done_count (own_events h m) + changes_by_others h m ≡ done_count h

-- every law of a legal history
pub record Lawful (s : ModelState) (h : List Event) : Type 0 where
  pub legal : IsLegal s h
  pub one_holder : OneHolder s h
  pub mover_is_host : MoverIsHost s h
  pub guest_only_while_open : GuestOnlyWhileOpen s h
  pub plates_are_kept : PlatesAreKept s h
  pub stamp_counts_changes : StampCountsChanges s h
  pub belts_run_clear : RunsClear s → BeltsRunClear s h
  pub right_lasts : (before more : List Event) → h ≡ before ++ more → RightLasts s before more
  pub posture_by_events : PostureByEvents s h
  pub stays_sound : StaysSound s h
  pub events_fit : EventsFit s h
  pub no_jump : NoJump s h
  pub handover_by_holder : HandoverByHolder s h
  pub stopped_until_resumed : StoppedUntilResumed s h
  pub changes_are_counted : ChangesAreCounted h
  pub refusals_tell : RefusalsTellAlong s h

-- every law, of each prefix of a history
abbrev pub LawfulThroughout : ModelState → List Event → Type 0
LawfulThroughout s h = Throughout (Lawful s) h

-- the same of all legal histories
abbrev pub EveryLegalHistoryIsLawful : Type 0
EveryLegalHistoryIsLawful = (s : ModelState) (h : List Event) → IsSound s → IsLegal s h → LawfulThroughout s h
