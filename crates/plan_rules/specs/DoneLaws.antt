-- When each call is Done, in all states of all tables: exactly if what is said here holds.
use Rattle.std.specs.Prelude.{◌≡◌, ◌≢◌, ◌↔◌, ◌⊎◌, ℕ, ◌<◌, Bool, true, false, Some, None}
use Rattle.plan_types.specs.declared.posture.Posture.{Posture}
use Rattle.plan_types.specs.declared.posture.Posture.TheVariants.{Moving, OpenIn, OpenOut}
use Rattle.plan_types.specs.declared.table.Transfer.{Transfer}
use Rattle.plan_types.specs.declared.call.Call.TheVariants.{Claim, Give, Yield, Take, Release, SetPose, Inquire, Stop}
use Rattle.plan_types.specs.declared.call.Call.TheVariants.{Resume, Advance}
use Rattle.plan_types.specs.declared.answer.Answer.TheVariants.{Done, Shown}
use Rattle.plan_types.specs.Table.{PlanTable, zone_count, pose_count, host_of, guest_of, machine_of, pose_row}
use Rattle.plan_types.specs.Table.{posture_of, transfer_of, place_count, keeper_of, is_source, is_sink}
use Rattle.plan_rules.specs.declared.state.State.{State}
use Rattle.plan_rules.specs.State.{zone_at, owner_of, posture_at, is_full, plates_for, space_has_plate}
use Rattle.plan_rules.specs.Reply.{reply}

-- a machine is the host or the guest of a zone of the plan
abbrev pub IsPartyOf : PlanTable → ℕ → ℕ → Type 0
IsPartyOf t m z = (z < zone_count t) × ((m ≡ host_of t z) ⊎ (m ≡ guest_of t z))

abbrev pub IsOpen : State → ℕ → Type 0
IsOpen s z = (posture_at s z ≡ OpenIn) ⊎ (posture_at s z ≡ OpenOut)

abbrev pub HasStampsLeft : State → Type 0
HasStampsLeft s = s.stamp < 1048575

-- a party claims a free zone; the guest claims it only while it is open
pub record MayClaim (t : PlanTable) (s : State) (m z : ℕ) : Type 0 where
  pub party : IsPartyOf t m z
  pub runs : s.stopped ≡ false
  pub free : owner_of s z ≡ None
  pub open_to_guest : m ≡ guest_of t z → IsOpen s z
  pub stamps : HasStampsLeft s

-- a party owns a zone, and no plate is in its space
pub record IsHolder (t : PlanTable) (s : State) (m z : ℕ) : Type 0 where
  pub party : IsPartyOf t m z
  pub owner : owner_of s z ≡ Some m
  pub clear : space_has_plate t s z ≡ false
  pub stamps : HasStampsLeft s

-- a party owns a zone with a plate in it
pub record MayTake (t : PlanTable) (s : State) (m z : ℕ) : Type 0 where
  pub party : IsPartyOf t m z
  pub owner : owner_of s z ≡ Some m
  pub plate : (zone_at s z).flag ≡ true
  pub stamps : HasStampsLeft s

-- the posture gives the machine's plate a way, from a place that has one to a place that has none and none coming
pub record HasGift (t : PlanTable) (s : State) (m z : ℕ) : Type 0 where
  pub way : Transfer
  pub is : transfer_of t z (posture_at s z) ≡ Some way
  pub giver : way.giver ≡ m
  pub plate : is_full s way.from ≡ true
  pub room : plates_for t s way.to ≡ 0

pub record MayGive (t : PlanTable) (s : State) (m z : ℕ) : Type 0 where
  pub holder : IsHolder t s m z
  pub runs : s.stopped ≡ false
  pub gift : HasGift t s m z

pub record MayYield (t : PlanTable) (s : State) (m z : ℕ) : Type 0 where
  pub holder : IsHolder t s m z
  pub opened : IsOpen s z

pub record MayRelease (t : PlanTable) (s : State) (m z : ℕ) : Type 0 where
  pub holder : IsHolder t s m z
  pub stands : posture_at s z ≢ Moving

-- a zone of its own, with no plate in its space
abbrev pub IsClear : PlanTable → State → ℕ → ℕ → Type 0
IsClear t s m z = (owner_of s z ≡ Some m) × (space_has_plate t s z ≡ false)

pub record MayPose (t : PlanTable) (s : State) (m p : ℕ) : Type 0 where
  pub own : (p < pose_count t) × (machine_of t p ≡ m)
  -- a pose that gives any zone Moving is taken while the plant runs, and all zones that the machine hosts are clear
  pub runs : (y : ℕ) → posture_of t p y ≡ Some Moving → s.stopped ≡ false
  pub all_clear : (y : ℕ) → posture_of t p y ≡ Some Moving → (z : ℕ) → z < zone_count t → host_of t z ≡ m
      → IsClear t s m z
  -- a hosted zone that gets another posture is clear
  pub changed_clear : (z : ℕ) (q : Posture) → z < zone_count t → host_of t z ≡ m → posture_of t p z ≡ Some q
      → posture_at s z ≢ q → IsClear t s m z
  -- some poses are taken only while all zones that the machine hosts move
  pub no_jump : (pose_row t p).after_moving ≡ true → (z : ℕ) → z < zone_count t → host_of t z ≡ m
      → posture_at s z ≡ Moving
  -- a zone is opened inward only while the place that a plate would come to has none, and none coming
  pub room : (z : ℕ) (way : Transfer) → z < zone_count t → posture_of t p z ≡ Some OpenIn → posture_at s z ≢ OpenIn
      → transfer_of t z OpenIn ≡ Some way → plates_for t s way.to ≡ 0
  pub stamps : HasStampsLeft s

-- the keeper of a source or of a sink
abbrev pub KeepsEnd : PlanTable → ℕ → ℕ → Type 0
KeepsEnd t m p =
    (p < place_count t) × (keeper_of t p ≡ m) × ((is_source t p ≡ true) ⊎ (is_sink t p ≡ true))

-- a plate comes to a source that has none, and none coming; or one goes from a sink that has one
abbrev pub PlateMoves : PlanTable → State → ℕ → Type 0
PlateMoves t s p =
    ((is_source t p ≡ true) × (plates_for t s p ≡ 0)) ⊎ ((is_sink t p ≡ true) × (is_full s p ≡ true))

pub record MayAdvance (t : PlanTable) (s : State) (m p : ℕ) : Type 0 where
  pub own : KeepsEnd t m p
  pub runs : s.stopped ≡ false
  pub moves : PlateMoves t s p
  pub stamps : HasStampsLeft s

-- the watch, 30, alone stops and resumes, in turn
pub record MayMark (s : State) (m : ℕ) (stopped : Bool) : Type 0 where
  pub watch : m ≡ 30
  pub in_turn : s.stopped ≡ stopped
  pub stamps : HasStampsLeft s

pub record DoneExactly (t : PlanTable) (s : State) (m z p : ℕ) : Type 0 where
  pub claim : (reply t s m (Claim z) ≡ Done) ↔ MayClaim t s m z
  pub give : (reply t s m (Give z) ≡ Done) ↔ MayGive t s m z
  pub yield : (reply t s m (Yield z) ≡ Done) ↔ MayYield t s m z
  pub take : (reply t s m (Take z) ≡ Done) ↔ MayTake t s m z
  pub release : (reply t s m (Release z) ≡ Done) ↔ MayRelease t s m z
  pub pose : (reply t s m (SetPose p) ≡ Done) ↔ MayPose t s m p
  pub stop : (reply t s m Stop ≡ Done) ↔ MayMark s m false
  pub resume : (reply t s m Resume ≡ Done) ↔ MayMark s m true
  pub advance : (reply t s m (Advance p) ≡ Done) ↔ MayAdvance t s m p
  -- whoever asks about a zone of the plan is shown it
  pub inquire : z < zone_count t
      → reply t s m (Inquire z) ≡ Shown (owner_of s z) (zone_at s z).flag (posture_at s z)

abbrev pub CallsAreDoneExactly : Type 0
CallsAreDoneExactly = (t : PlanTable) (s : State) (m z p : ℕ) → DoneExactly t s m z p
