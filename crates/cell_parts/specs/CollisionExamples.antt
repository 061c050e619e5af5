-- Collisions in numbers. A rule is stated for all positions and motors of its parts: at both ends of each interval, one
-- step inside it, one step outside, and for a motor that drives either way.
use Rattle.std.specs.Prelude.{◌≡◌, ◌↔◌, ℕ, ◌≤◌, Bool, true, false, ◌⊎◌, IsTrue, IsSome, Option, Some, None}
use Rattle.cell_rules.specs.Types.{Machine, Table, Robot, Press, Crane}
use Rattle.cell_devices.specs.declared.motor.Motor.{Motor}
use Rattle.cell_devices.specs.declared.motor.Motor.TheVariants.{Off, Plus, Minus}
use Rattle.cell_parts.specs.declared.axis.Axis.{Axis}
use Rattle.cell_parts.specs.declared.plant.PlantState.{PlantState}
use Rattle.cell_parts.specs.Collisions.{ArmHitsPress, TableHitsArm, DepositBeltPulls, FeedBeltPulls, CraneTravelsLow}
use Rattle.cell_parts.specs.Collisions.{RobotTurnsWithArmOut, PlateMissesTable, PlateFalls, DrivesPastEnd}
use Rattle.cell_parts.specs.Collisions.{NothingCollides, NothingCollidesWhenSet}
use Rattle.cell_parts.specs.Examples.{FromTo, IsDriven, empty_cell, driven_at, at, robot_with, robot_at, table_at}
use Rattle.cell_parts.specs.Examples.{crane_with, crane_at, belt_of, with_press, with_robot, with_arm1, with_arm2}
use Rattle.cell_parts.specs.Examples.{with_rotation, with_lift, with_turn, with_crane, with_travel, with_gripper}

-- ---- seven collisions

-- both arms at a rotation of the robot; with them the press, or the table by its height and its rotation
abbrev pub arms_and_press : ℕ → ℕ → ℕ → Axis → PlantState
arms_and_press arm1 arm2 rotation press = record empty_cell {
  robot = robot_at (at arm1) (at arm2) (at rotation);
  press = press;
}

abbrev pub arms_and_table : ℕ → ℕ → ℕ → Axis → Axis → PlantState
arms_and_table arm1 arm2 rotation lift turn =
    record empty_cell { robot = robot_at (at arm1) (at arm2) (at rotation); table = table_at lift turn }

-- the deposit belt by the plates at its entry and its end; with it both arms, or the gripper at a travel of the crane
abbrev pub deposit_and_arms : Option ℕ → Option ℕ → Bool → ℕ → ℕ → ℕ → ℕ → ℕ → PlantState
deposit_and_arms entry last runs arm1 arm2 rotation travel gripper =
    record empty_cell {
      deposit = belt_of entry last runs;
      robot = robot_at (at arm1) (at arm2) (at rotation);
      crane = crane_at (at travel) (at gripper);
    }

-- the feed belt; with it the gripper at a travel of the crane, or the table
abbrev pub feed_and_crane : Option ℕ → Option ℕ → Bool → ℕ → ℕ → PlantState
feed_and_crane entry last runs travel gripper =
    record empty_cell { feed = belt_of entry last runs; crane = crane_at (at travel) (at gripper) }

abbrev pub feed_and_table : Option ℕ → Option ℕ → Bool → Axis → Axis → PlantState
feed_and_table entry last runs lift turn =
    record empty_cell { feed = belt_of entry last runs; table = table_at lift turn }

pub record CollisionBounds : Type 0 where
  pub arm_hits_press : (arm1 arm2 rotation press : ℕ) (motor : Motor)
      → ArmHitsPress (arms_and_press arm1 arm2 rotation (driven_at press motor))
      ↔ (((51 ≤ arm1) × FromTo 1400 1600 rotation × (¬ ((motor ≡ Off) × FromTo 490 510 press)))
      ⊎ ((51 ≤ arm2) × FromTo 500 700 rotation × (¬ ((motor ≡ Off) × (press ≤ 10)))))
  pub table_hits_arm : (arm1 arm2 rotation lift turn : ℕ) (height turning : Motor)
      → TableHitsArm (arms_and_table arm1 arm2 rotation (driven_at lift height) (driven_at turn turning))
      ↔ ((IsDriven height ⊎ IsDriven turning) × (51 ≤ arm1) × FromTo 200 400 rotation)
  pub deposit_belt_pulls : (entry last : Option ℕ) (runs : Bool) (arm1 arm2 rotation travel gripper : ℕ)
      → DepositBeltPulls (deposit_and_arms entry last runs arm1 arm2 rotation travel gripper)
      ↔ (IsTrue runs × (((51 ≤ arm2) × FromTo 1700 1900 rotation) ⊎ (((gripper ≤ 799) × (travel ≤ 200)) ⊎ IsSome last)))
  pub feed_belt_pulls : (entry last : Option ℕ) (runs : Bool) (travel gripper : ℕ)
      → FeedBeltPulls (feed_and_crane entry last runs travel gripper)
      ↔ (IsTrue runs × (gripper ≤ 799) × (1800 ≤ travel))
  pub crane_travels_low : (travel gripper : ℕ) (motor height : Motor)
      → CraneTravelsLow (with_crane (driven_at travel motor) (driven_at gripper height))
      ↔ (IsDriven motor × (gripper ≤ 799))
  pub robot_turns_with_arm_out : (arm1 arm2 rotation : ℕ) (motor : Motor)
      → RobotTurnsWithArmOut (with_robot (at arm1) (at arm2) (driven_at rotation motor))
      ↔ (IsDriven motor × ((51 ≤ arm1) ⊎ (51 ≤ arm2)))
  pub plate_misses_table : (entry last : Option ℕ) (runs : Bool) (lift turn : ℕ) (height turning : Motor)
      → PlateMissesTable (feed_and_table entry last runs (driven_at lift height) (driven_at turn turning))
      ↔ (IsTrue runs × IsSome last × ((IsDriven height ⊎ IsDriven turning) ⊎ ((11 ≤ lift) ⊎ (21 ≤ turn))))

-- ---- magnets

-- the robot by one magnet, its rotation and that arm; the crane by its magnet, its travel and its gripper
abbrev pub with_magnet1 : ℕ → ℕ → Bool → PlantState
with_magnet1 rotation arm on = record empty_cell { robot = robot_with (at arm) (at 0) (at rotation) on false }

abbrev pub with_magnet2 : ℕ → ℕ → Bool → PlantState
with_magnet2 rotation arm on = record empty_cell { robot = robot_with (at 0) (at arm) (at rotation) false on }

abbrev pub with_crane_magnet : ℕ → ℕ → Bool → PlantState
with_crane_magnet travel gripper on = record empty_cell { crane = crane_with (at travel) (at gripper) on }

-- a magnet that is switched off drops a plate, except where plates are laid down; one that stays on, stays off or is
-- switched on doesn't
abbrev pub FallsBut : (ℕ → ℕ → Bool → PlantState) → (ℕ → ℕ → Type 0) → Type 0
FallsBut magnet Laid =
    (a b : ℕ) (before now : Bool) → PlateFalls (magnet a b before) (magnet a b now)
    ↔ ((before ≡ true) × (now ≡ false) × (¬ Laid a b))

pub record MagnetBounds : Type 0 where
  pub arm1 : FallsBut with_magnet1 (λ rotation arm. FromTo 1460 1540 rotation × FromTo 760 840 arm)
  pub arm2 : FallsBut with_magnet2 (λ rotation arm. FromTo 1760 1840 rotation × FromTo 560 640 arm)
  pub crane : FallsBut with_crane_magnet (λ travel gripper. (1990 ≤ travel) × FromTo 250 350 gripper)

-- ---- the ends of the axes

-- an axis from 0 to an end is driven past these two alone, and only outwards
abbrev pub EndsAt : Machine → (Axis → PlantState) → ℕ → Type 0
EndsAt m with_axis end =
    (position : ℕ) (motor : Motor) → DrivesPastEnd m (with_axis (driven_at position motor))
    ↔ (((position ≡ 0) × (motor ≡ Minus)) ⊎ ((position ≡ end) × (motor ≡ Plus)))

pub record EndBounds : Type 0 where
  pub press : EndsAt Press with_press 1000
  pub arm1 : EndsAt Robot with_arm1 1000
  pub arm2 : EndsAt Robot with_arm2 1000
  pub rotation : EndsAt Robot with_rotation 2000
  pub lift : EndsAt Table with_lift 600
  pub turn : EndsAt Table with_turn 500
  pub travel : EndsAt Crane with_travel 2000
  pub gripper : EndsAt Crane with_gripper 1000
  pub turn_of_another : ¬ DrivesPastEnd Table (with_press (driven_at 0 Minus))

-- ---- each collision matters

pub record EachCollision : Type 0 where
  pub arm_and_press : ¬ NothingCollides (arms_and_press 51 0 1400 (at 0))
  pub table_and_arm : ¬ NothingCollides (arms_and_table 51 0 200 (driven_at 300 Plus) (at 250))
  pub deposit_belt : ¬ NothingCollides (deposit_and_arms None (Some 1000) true 0 0 300 1000 900)
  pub feed_belt : ¬ NothingCollides (feed_and_crane None None true 1800 799)
  pub crane : ¬ NothingCollides (with_crane (driven_at 1000 Plus) (at 799))
  pub robot : ¬ NothingCollides (with_robot (at 51) (at 0) (driven_at 1000 Plus))
  pub plate_and_table : ¬ NothingCollides (feed_and_table None (Some 980) true (at 11) (at 20))
  pub when_set : ¬ NothingCollidesWhenSet Crane (with_crane (driven_at 1000 Plus) (at 799))
      (with_crane (driven_at 1000 Plus) (at 799))
  pub magnet : ¬ NothingCollidesWhenSet Robot (with_magnet1 1459 800 true) (with_magnet1 1459 800 false)
  pub end : ¬ NothingCollidesWhenSet Press (with_press (at 1000)) (with_press (driven_at 1000 Plus))
