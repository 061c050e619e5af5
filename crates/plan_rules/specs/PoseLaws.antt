-- Which zone a refused pose names, in all states of all tables: the lowest of those that bar it. And for what a pose is
-- refused: each line says also that nothing is so that comes earlier in the order.
use Rattle.std.specs.Prelude.{◌≡◌, ◌≢◌, ◌↔◌, ◌⊎◌, ℕ, ◌<◌, ◌≤◌, true, false, Option, Some}
use Rattle.plan_types.specs.declared.posture.Posture.{Posture}
use Rattle.plan_types.specs.declared.posture.Posture.TheVariants.{Moving}
use Rattle.plan_types.specs.declared.call.Call.TheVariants.{SetPose}
use Rattle.plan_types.specs.declared.answer.Refusal.{Refusal}
use Rattle.plan_types.specs.declared.answer.Refusal.TheVariants.{NoPose, Stopped, NotOwner, PlateInZone, Jump}
use Rattle.plan_types.specs.declared.answer.Refusal.TheVariants.{PlaceFull}
use Rattle.plan_types.specs.declared.answer.Refusal.TheVariants.{Worn}
use Rattle.plan_types.specs.declared.answer.Answer.TheVariants.{Refused}
use Rattle.plan_types.specs.Table.{PlanTable, zone_count, pose_count, host_of, machine_of, posture_of}
use Rattle.plan_rules.specs.declared.state.State.{State}
use Rattle.plan_rules.specs.State.{owner_of, posture_at, space_has_plate}
use Rattle.plan_rules.specs.Reply.{reply}
use Rattle.plan_rules.specs.SayLaws.{LacksRoom, Jumps}

-- a pose needs the zones that its machine hosts: all if it gives any zone Moving, else those that get another posture
abbrev pub Needs : PlanTable → State → ℕ → ℕ → ℕ → Type 0
Needs t s m p z =
    (z < zone_count t) × (host_of t z ≡ m)
    × (((y : ℕ) × (posture_of t p y ≡ Some Moving))
    ⊎ ((q : Posture) × (posture_of t p z ≡ Some q) × (posture_at s z ≢ q)))

-- a zone that a pose needs bars it: it isn't the machine's, or a plate is in its space
abbrev pub BarsByOwner : PlanTable → State → ℕ → ℕ → ℕ → Type 0
BarsByOwner t s m p z = Needs t s m p z × (owner_of s z ≢ Some m)

abbrev pub BarsByPlate : PlanTable → State → ℕ → ℕ → ℕ → Type 0
BarsByPlate t s m p z = Needs t s m p z × (space_has_plate t s z ≡ true)

-- this zone does so, and no lower one
abbrev pub IsLowest : (ℕ → Type 0) → ℕ → Type 0
IsLowest bars z = bars z × ((y : ℕ) → y < z → ¬ bars y)

pub record NamesLowest (t : PlanTable) (s : State) (m p : ℕ) : Type 0 where
  pub owner : (o : Option ℕ) → reply t s m (SetPose p) ≡ Refused (NotOwner o)
      → (z : ℕ) × IsLowest (BarsByOwner t s m p) z × (owner_of s z ≡ o)
  pub plate : (z : ℕ) → reply t s m (SetPose p) ≡ Refused (PlateInZone z)
      → IsLowest (BarsByPlate t s m p) z

abbrev pub PosesNameLowestZones : Type 0
PosesNameLowestZones = (t : PlanTable) (s : State) (m p : ℕ) → NamesLowest t s m p

abbrev pub GivesMoving : PlanTable → ℕ → Type 0
GivesMoving t p = (y : ℕ) × (posture_of t p y ≡ Some Moving)

-- a machine asks for a pose of its own; one that gives any zone Moving while the plant runs
abbrev pub IsOwnPose : PlanTable → ℕ → ℕ → Type 0
IsOwnPose t m p = (p < pose_count t) × (machine_of t p ≡ m)

abbrev pub IsPoseHeard : PlanTable → State → ℕ → ℕ → Type 0
IsPoseHeard t s m p = IsOwnPose t m p × (GivesMoving t p → s.stopped ≡ false)

-- so, and of the zones that the pose needs each is the machine's; and none has a plate in it
abbrev pub OwnsAll : PlanTable → State → ℕ → ℕ → Type 0
OwnsAll t s m p = IsPoseHeard t s m p × ((z : ℕ) → ¬ BarsByOwner t s m p z)

abbrev pub HasAllClear : PlanTable → State → ℕ → ℕ → Type 0
HasAllClear t s m p = OwnsAll t s m p × ((z : ℕ) → ¬ BarsByPlate t s m p z)

abbrev pub BarsPose : PlanTable → State → ℕ → ℕ → Refusal → Type 0
BarsPose t s m p NoPose = ¬ IsOwnPose t m p
BarsPose t s m p Stopped = IsOwnPose t m p × GivesMoving t p × (s.stopped ≡ true)
BarsPose t s m p (NotOwner o) =
    IsPoseHeard t s m p × (z : ℕ) × IsLowest (BarsByOwner t s m p) z × (owner_of s z ≡ o)
BarsPose t s m p (PlateInZone z) = OwnsAll t s m p × IsLowest (BarsByPlate t s m p) z
BarsPose t s m p Jump = HasAllClear t s m p × Jumps t s m (SetPose p)
BarsPose t s m p PlaceFull = HasAllClear t s m p × (¬ Jumps t s m (SetPose p)) × LacksRoom t s m (SetPose p)
BarsPose t s m p Worn =
    HasAllClear t s m p × (¬ Jumps t s m (SetPose p)) × (¬ LacksRoom t s m (SetPose p)) × (1048575 ≤ s.stamp)
BarsPose t s m p _ = ⊥

abbrev pub PosesAreRefusedExactly : Type 0
PosesAreRefusedExactly =
    (t : PlanTable) (s : State) (m p : ℕ) (r : Refusal) → (reply t s m (SetPose p) ≡ Refused r) ↔ BarsPose t s m p r
