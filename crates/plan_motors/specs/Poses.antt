-- Which postures the zones of a host can have together, by its poses: more than the rules of single zones say. From
-- some postures poses lead to dangerous ones, those in which both of two motors could be permitted. Backward from
-- these, a zone whose posture a pose gives may have had any posture before it.
use Rattle.std.specs.Prelude.{◌≡◌, ℕ, ◌<◌, Bool, true, false, ◌&&◌, not, List, get_or, Option, Some, None}
use Rattle.std.specs.Prelude.{[], ◌∷◌, ◌⊎◌, ◌||◌, ⊤, is_none, is_some, unwrap_or, IsTrue, if◌then◌else◌}
use Rattle.plan_types.specs.declared.posture.Posture.{Posture}
use Rattle.plan_types.specs.declared.posture.Posture.TheVariants.{Moving}
use Rattle.plan_types.specs.declared.answer.Event.{Event}
use Rattle.plan_types.specs.Same.{same_posture}
use Rattle.plan_types.specs.Table.{PlanTable, zone_count, pose_count, is_hosted, machine_of, pose_row}
use Rattle.plan_types.specs.Table.{posture_of}
use Rattle.plan_rules.specs.declared.state.State.{State}
use Rattle.plan_rules.specs.State.{zone_at, posture_at}
use Rattle.plan_rules.specs.Sound.{IsSound, implies}
use Rattle.plan_rules.specs.History.{after, IsLegal}
use Rattle.plan_motors.specs.declared.motor.Motor.{Motor}
use Rattle.plan_motors.specs.declared.poses.Leads.{Leads}
use Rattle.plan_motors.specs.Motor.{need_of, meets, Permits}
use Rattle.plan_motors.specs.Exclusion.{owner_needed, owner_for, is_shared}

-- a zone in a posture can be as two motors need it
abbrev pub fits_in : PlanTable → Motor → Motor → ℕ → Posture → Bool
fits_in t a b z q =
    is_shared t a b z (record { owner = owner_for t z (owner_needed a b z) (Some q); flag = false; posture = q })

-- a posture that leads on: Moving, before a pose that comes after moving; else one that both motors could have
abbrev pub leads_on : PlanTable → Motor → Motor → Bool → ℕ → Posture → Bool
leads_on t a b moving z q = if moving then same_posture q Moving else fits_in t a b z q

-- a zone of host m of which not any posture will do
abbrev pub matters : PlanTable → ℕ → List Bool → ℕ → Bool
matters t m any z = is_hosted t z m && not (get_or any z false)

-- postures of host m's zones that lead on: each zone that matters has one that does
abbrev pub LeadOn : PlanTable → Motor → Motor → ℕ → List Bool → Bool → (ℕ → Posture) → Type 0
LeadOn t a b m any moving q =
    (z : ℕ) → z < zone_count t → IsTrue (implies (matters t m any z) (leads_on t a b moving z (q z)))

-- the posture of a zone after a pose
abbrev pub posture_after : PlanTable → ℕ → ℕ → Posture → Posture
posture_after t p z q = unwrap_or (posture_of t p z) q

-- a posture that a pose gives leads on, if it gives one
abbrev pub given_leads_on : PlanTable → Motor → Motor → Bool → ℕ → Option Posture → Bool
given_leads_on t a b moving z None = true
given_leads_on t a b moving z (Some q) = leads_on t a b moving z q

-- each posture that a pose gives to a zone that matters leads on
abbrev pub GivesWell : PlanTable → Motor → Motor → ℕ → List Bool → Bool → ℕ → Type 0
GivesWell t a b m any moving p =
    (z : ℕ) → z < zone_count t
    → IsTrue (implies (matters t m any z) (given_leads_on t a b moving z (posture_of t p z)))

-- a pose gives no zone that matters a posture
abbrev pub LeavesAlone : PlanTable → ℕ → List Bool → ℕ → Type 0
LeavesAlone t m any p =
    (z : ℕ) → z < zone_count t → IsTrue (implies (matters t m any z) (is_none (posture_of t p z)))

-- from zones that all move a pose gives postures that lead to danger
abbrev pub MovingLeads : PlanTable → Motor → Motor → ℕ → List Bool → ℕ → Type 0
MovingLeads t a b m any p = LeadOn t a b m any false (λ z. posture_after t p z Moving)

-- all zones that a machine hosts move
abbrev pub AllMove : PlanTable → ℕ → (ℕ → Posture) → Type 0
AllMove t m q = (z : ℕ) → z < zone_count t → IsTrue (is_hosted t z m) → q z ≡ Moving

-- a machine can take a pose of its own; one that comes only after moving, while all its zones move
pub record CanTake (t : PlanTable) (m p : ℕ) (q : ℕ → Posture) : Type 0 where
  pub there : p < pose_count t
  pub own : machine_of t p ≡ m
  pub moves : IsTrue (pose_row t p).after_moving → AllMove t m q

-- the postures after some poses, the first one first, and that a machine can take them
abbrev pub after_poses : PlanTable → List ℕ → (ℕ → Posture) → ℕ → Posture
after_poses t [] q z = q z
after_poses t (p ∷ poses) q z = after_poses t poses (λ y. posture_after t p y (q y)) z

abbrev pub CanTakeAll : PlanTable → ℕ → List ℕ → (ℕ → Posture) → Type 0
CanTakeAll t m [] q = ⊤
CanTakeAll t m (p ∷ poses) q = CanTake t m p q × CanTakeAll t m poses (λ y. posture_after t p y (q y))

-- poses of machine m lead from some postures to ones that lead on, in all its zones
pub record PosesLead (t : PlanTable) (a b : Motor) (m : ℕ) (moving : Bool) (q : ℕ → Posture) : Type 0 where
  pub poses : List ℕ
  pub taken : CanTakeAll t m poses q
  pub arrived : LeadOn t a b m [] moving (after_poses t poses q)

-- poses of machine m lead from some postures to ones in which each of its zones can be as both motors need it
abbrev pub LeadToDanger : PlanTable → Motor → Motor → ℕ → (ℕ → Posture) → Type 0
LeadToDanger t a b m q = PosesLead t a b m false q

-- a pose of machine m that may be taken at any time gives only postures that lead on, and one of them to a zone that
-- matters
pub record LeadsFurther (t : PlanTable) (a b : Motor) (m : ℕ) (any : List Bool) (moving : Bool) (p : ℕ) : Type 0 where
  pub own : machine_of t p ≡ m
  pub at_any_time : (pose_row t p).after_moving ≡ false
  pub well : GivesWell t a b m any moving p
  pub further : ¬ LeavesAlone t m any p

-- any posture of a zone will do before a pose
abbrev pub is_any_before : PlanTable → List Bool → ℕ → ℕ → Bool
is_any_before t any p z = get_or any z false || is_some (posture_of t p z)

-- the zones of a host of which any posture will do: from all postures that lead on in the other zones poses lead on,
-- and no pose leads further
pub record AreFound (t : PlanTable) (a b : Motor) (m : ℕ) (moving : Bool) (any : List Bool) : Type 0 where
  pub all : (p : ℕ) → p < pose_count t → ¬ LeadsFurther t a b m any moving p
  pub lead : (q : ℕ → Posture) → LeadOn t a b m any moving q → PosesLead t a b m moving q

-- a pose that leads from zones that all move to danger
pub record LeadsByMoving (t : PlanTable) (a b : Motor) (m : ℕ) (any : List Bool) (p : ℕ) : Type 0 where
  pub there : p < pose_count t
  pub own : machine_of t p ≡ m
  pub waits : IsTrue (pose_row t p).after_moving
  pub leads : MovingLeads t a b m any p

-- such zones, before danger and before moving, and whether any pose leads from moving to danger
pub record AreLeads (t : PlanTable) (a b : Motor) (m : ℕ) (l : Leads) : Type 0 where
  pub danger : AreFound t a b m false l.any
  pub by_moving : (p : ℕ) → LeadsByMoving t a b m l.any p → IsTrue l.by_moving
  pub from_moving : IsTrue l.by_moving → (p : ℕ) × LeadsByMoving t a b m l.any p
  pub moving : AreFound t a b m true l.any_moving

-- postures that lead to danger, at once or by moving
abbrev pub LeadSomewhere : PlanTable → Motor → Motor → ℕ → Leads → (ℕ → Posture) → Type 0
LeadSomewhere t a b m l q =
    LeadOn t a b m l.any false q ⊎ (IsTrue l.by_moving × LeadOn t a b m l.any_moving true q)

-- two states with one posture in each zone
abbrev pub HasPosturesOf : PlanTable → State → State → Type 0
HasPosturesOf t s o = (z : ℕ) → z < zone_count t → posture_at o z ≡ posture_at s z

-- after no legal history from a sound opening with the postures of s is every zone of host m as both motors need it
abbrev pub IsApartByPoses : PlanTable → Motor → Motor → State → ℕ → Type 0
IsApartByPoses t a b s m =
    (o : State) (h : List Event) → IsSound t o → HasPosturesOf t s o → IsLegal t o h
    → ¬ ((z : ℕ) → z < zone_count t → IsTrue (is_hosted t z m)
    → IsTrue (meets a.machine (need_of a z) (zone_at (after t o h) z))
    × IsTrue (meets b.machine (need_of b z) (zone_at (after t o h) z)))

-- two motors are never permitted both after a legal history from an opening
abbrev pub NeverFrom : PlanTable → State → Motor → Motor → Type 0
NeverFrom t s a b =
    (h : List Event) → IsLegal t s h → Permits t (after t s h) a → ¬ Permits t (after t s h) b

-- nor from any sound opening with the same postures
abbrev pub NeverFromPostures : PlanTable → State → Motor → Motor → Type 0
NeverFromPostures t s a b = (o : State) → IsSound t o → HasPosturesOf t s o → NeverFrom t o a b
