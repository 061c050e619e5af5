-- What positions and motors demand, in numbers: machine, zone and posture. A rule is stated for all positions and
-- motors of its parts: at both ends of each interval, one step inside it, one step outside, and for a motor that drives
-- either way.
use Rattle.std.specs.Prelude.{◌≡◌, ◌≢◌, ◌↔◌, ℕ, ◌≤◌, Bool, true, false, ◌⊎◌, IsTrue, IsSome, Option, Some, None}
use Rattle.cell_rules.specs.Types.{Machine, Feed, Table, Robot, Press, Deposit, Crane, Zone, Z1, Z2, Z3, Z4, Z5, Z6}
use Rattle.cell_rules.specs.Types.{Posture, Moving, OpenIn, OpenOut, Place}
use Rattle.cell_types.specs.declared.place.Place.TheVariants as place
use Rattle.cell_devices.specs.declared.motor.Motor.{Motor}
use Rattle.cell_devices.specs.declared.motor.Motor.TheVariants.{Off, Plus}
use Rattle.cell_rules.specs.Names.{empty, insert_place, ModelState, start_state, posture_at}
use Rattle.cell_parts.specs.declared.belt.Belt.{Belt}
use Rattle.cell_parts.specs.declared.plant.PlantState.{PlantState}
use Rattle.cell_parts.specs.PositionDemands.{RestsAtLoading, Arm1OutDemands, Arm2OutDemands, PressStands, TableStands}
use Rattle.cell_parts.specs.PositionDemands.{GripperDownDemands, EndPlatesStand, PositionDemands}
use Rattle.cell_parts.specs.MotorDemands.{PressMotorDemands, TableMotorDemands, FeedMotorDemands, DepositMotorDemands}
use Rattle.cell_parts.specs.MotorDemands.{Arm1MotorDemands, Arm2MotorDemands, GripperErrand, ForTravel, AtDeposit}
use Rattle.cell_parts.specs.MotorDemands.{AtFeed, GripperMotorDemands, MotorDemands, TravelsHigh, RotatesRetracted}
use Rattle.cell_parts.specs.MotorDemands.{DrivesIn, Rests}
use Rattle.cell_parts.specs.Examples.{FromTo, IsDriven, empty_cell, cell_with_plate_at, driven_at, at, robot_at}
use Rattle.cell_parts.specs.Examples.{table_at, crane_at, belt_of, with_feed, with_deposit, with_table, with_robot}
use Rattle.cell_parts.specs.Examples.{with_crane, with_press, with_lift, all_free, with_zone, held_by}

-- ---- whose zone is demanded, which one, and in which posture

-- Exactly this is demanded, whatever the others hold: a machine holds a zone in a posture. Nothing less meets the
-- demand, nor does another machine, another zone or another posture.
pub record AsksFor (others : ModelState) (m : Machine) (z : Zone) (q : Posture) (Demands : ModelState → Type 0)
    : Type 0 where
  pub met : Demands (with_zone others m z q)
  pub of_nobody : ¬ Demands others
  pub of_no_other : (n : Machine) → n ≢ m → ¬ Demands (with_zone others n z q)
  pub at_no_other : (y : Zone) → y ≢ z → ¬ Demands (with_zone others m y q)
  pub in_no_other : (r : Posture) → r ≢ q → ¬ Demands (with_zone others m z r)

-- What works at two places demands at each position of a place that place's zone, open for it; elsewhere no state meets
-- the demand.
pub record WorksAt (m : Machine) (First : ℕ → Type 0) (y : Zone) (q : Posture) (Second : ℕ → Type 0) (z : Zone)
    (r : Posture)
    (Demands : ℕ → ModelState → Type 0) : Type 0 where
  pub first : (p : ℕ) → First p → AsksFor all_free m y q (Demands p)
  pub second : (p : ℕ) → Second p → AsksFor all_free m z r (Demands p)
  pub elsewhere : (p : ℕ) → (¬ First p) → (¬ Second p) → (s : ModelState) → ¬ Demands p s

-- over the table or in the press; in the press or over the deposit belt; over the deposit belt or over the feed belt
abbrev pub Arm1WorksAt : (ℕ → ModelState → Type 0) → Type 0
Arm1WorksAt Demands = WorksAt Robot (FromTo 200 400) Z2 OpenOut (FromTo 1400 1600) Z3 OpenIn Demands

abbrev pub Arm2WorksAt : (ℕ → ModelState → Type 0) → Type 0
Arm2WorksAt Demands = WorksAt Robot (FromTo 500 700) Z3 OpenOut (FromTo 1700 1900) Z4 OpenIn Demands

abbrev pub GripperWorksAt : (ℕ → ModelState → Type 0) → Type 0
GripperWorksAt Demands = WorksAt Crane (λ travel. travel ≤ 200) Z5 OpenOut (λ travel. 1800 ≤ travel) Z6 OpenIn Demands

-- ---- what positions demand

-- A plate is at a belt's end if and only if that place is full, wherever the plate is, whatever is at the entry, and
-- whether or not the belt runs.
pub record EndPlateStands (end : Place) (with_belt : Belt → PlantState) : Type 0 where
  pub present : (entry : Option ℕ) (last : ℕ) (runs : Bool)
      → EndPlatesStand (start_state (insert_place empty end) 0) (with_belt (belt_of entry (Some last) runs))
  pub missing : (entry : Option ℕ) (runs : Bool)
      → ¬ EndPlatesStand (start_state (insert_place empty end) 0) (with_belt (belt_of entry None runs))
  pub unknown : (entry : Option ℕ) (last : ℕ) (runs : Bool)
      → ¬ EndPlatesStand all_free (with_belt (belt_of entry (Some last) runs))
  pub absent : (entry : Option ℕ) (runs : Bool) → EndPlatesStand all_free (with_belt (belt_of entry None runs))

pub record PositionDemandBounds : Type 0 where
  pub arm1_in : (s : ModelState) (arm rotation : ℕ) → arm ≤ 50
      → Arm1OutDemands s (with_robot (at arm) (at 0) (at rotation))
  pub arm1_out : (arm : ℕ) → 51 ≤ arm → Arm1WorksAt (λ rotation s. Arm1OutDemands s
      (with_robot (at arm) (at 0) (at rotation)))
  pub arm2_in : (s : ModelState) (arm rotation : ℕ) → arm ≤ 50
      → Arm2OutDemands s (with_robot (at 0) (at arm) (at rotation))
  pub arm2_out : (arm : ℕ) → 51 ≤ arm → Arm2WorksAt (λ rotation s. Arm2OutDemands s
      (with_robot (at 0) (at arm) (at rotation)))
  pub gripper_up : (s : ModelState) (travel gripper : ℕ)
      → 800 ≤ gripper → GripperDownDemands s (with_crane (at travel) (at gripper))
  pub gripper_down : (gripper : ℕ)
      → gripper ≤ 799 → GripperWorksAt (λ travel s. GripperDownDemands s (with_crane (at travel) (at gripper)))
  pub press_for_arm1 : (s : ModelState) (press : ℕ) (motor : Motor) → posture_at s Z3 ≡ OpenIn
      → PressStands s (with_press (driven_at press motor)) ↔ ((motor ≡ Off) × FromTo 490 510 press)
  pub press_for_arm2 : (s : ModelState) (press : ℕ) (motor : Motor) → posture_at s Z3 ≡ OpenOut
      → PressStands s (with_press (driven_at press motor)) ↔ ((motor ≡ Off) × (press ≤ 10))
  pub press_for_nobody : (s : ModelState) (p : PlantState)
      → posture_at s Z3 ≢ OpenIn → posture_at s Z3 ≢ OpenOut → PressStands s p
  pub rests_at_loading : (lift turn : ℕ) (height turning : Motor)
      → RestsAtLoading (table_at (driven_at lift height) (driven_at turn turning))
      ↔ ((height ≡ Off) × (turning ≡ Off) × (lift ≤ 10) × (turn ≤ 20))
  pub table_for_feed : (s : ModelState) (p : PlantState) → posture_at s Z1 ≡ OpenIn → TableStands s p
      ↔ RestsAtLoading p.table
  pub table_for_nobody : (s : ModelState) (p : PlantState) → posture_at s Z1 ≢ OpenIn → TableStands s p
  pub feed_plate : EndPlateStands place.FeedEnd with_feed
  pub deposit_plate : EndPlateStands place.DepEnd with_deposit
  pub at_start : PositionDemands all_free empty_cell

-- ---- what motors demand

-- feed holds z6, which moves, and FeedEnd is full
abbrev pub feed_end_full : ModelState
feed_end_full = with_zone (start_state (insert_place empty place.FeedEnd) 0) Feed Z6 Moving

-- each belt runs, with the plates at its entry and at its end
abbrev pub feed_runs : Option ℕ → Option ℕ → PlantState
feed_runs entry last = with_feed (belt_of entry last true)

abbrev pub deposit_runs : Option ℕ → Option ℕ → PlantState
deposit_runs entry last = with_deposit (belt_of entry last true)

pub record MotorDemandBounds : Type 0 where
  pub nothing_driven : (errand : GripperErrand) (s : ModelState) (p : PlantState)
      → ((m : Machine) → Rests p m) → MotorDemands errand s p
  pub press : (press : ℕ) (motor : Motor)
      → IsDriven motor → AsksFor all_free Press Z3 Moving (λ s. PressMotorDemands s
      (with_press (driven_at press motor)))
  pub table_at_z1 : (lift turn : ℕ) (height turning : Motor) → IsDriven height ⊎ IsDriven turning
      → AsksFor (held_by Table Z2 Moving) Table Z1 Moving (λ s. TableMotorDemands s
      (with_table (driven_at lift height) (driven_at turn turning)))
  pub table_at_z2 : (lift turn : ℕ) (height turning : Motor) → IsDriven height ⊎ IsDriven turning
      → AsksFor (held_by Table Z1 Moving) Table Z2 Moving (λ s. TableMotorDemands s
      (with_table (driven_at lift height) (driven_at turn turning)))
  pub feed_at_z6 : (entry last : Option ℕ)
      → AsksFor all_free Feed Z6 Moving (λ s. FeedMotorDemands s (feed_runs entry last))
  pub feed_at_z1 : (entry last : Option ℕ) (q : Posture)
      → FeedMotorDemands (with_zone feed_end_full Feed Z1 q) (feed_runs entry last)
  pub z1_of_another : (entry last : Option ℕ) (q : Posture) (m : Machine)
      → m ≢ Feed → ¬ FeedMotorDemands (with_zone feed_end_full m Z1 q) (feed_runs entry last)
  pub z1_of_nobody : (entry last : Option ℕ) → ¬ FeedMotorDemands feed_end_full (feed_runs entry last)
  pub deposit_at_z4 : (entry last : Option ℕ)
      → AsksFor (held_by Deposit Z5 Moving) Deposit Z4 Moving (λ s. DepositMotorDemands s (deposit_runs entry last))
  pub deposit_at_z5 : (entry last : Option ℕ)
      → AsksFor (held_by Deposit Z4 Moving) Deposit Z5 Moving (λ s. DepositMotorDemands s (deposit_runs entry last))
  pub arm1 : (arm : ℕ) (motor : Motor) → IsDriven motor
      → Arm1WorksAt (λ rotation s. Arm1MotorDemands s (with_robot (driven_at arm motor) (at 0) (at rotation)))
  pub arm2 : (arm : ℕ) (motor : Motor) → IsDriven motor
      → Arm2WorksAt (λ rotation s. Arm2MotorDemands s (with_robot (at 0) (driven_at arm motor) (at rotation)))
  pub gripper_for_travel : (s : ModelState) (p : PlantState) → GripperMotorDemands ForTravel s p
  pub gripper_at_deposit : (travel gripper : ℕ) (motor : Motor) → IsDriven motor
      → AsksFor all_free Crane Z5 OpenOut (λ s. GripperMotorDemands AtDeposit s
      (with_crane (at travel) (driven_at gripper motor)))
  pub gripper_at_feed : (travel gripper : ℕ) (motor : Motor) → IsDriven motor
      → AsksFor all_free Crane Z6 OpenIn (λ s. GripperMotorDemands AtFeed s
      (with_crane (at travel) (driven_at gripper motor)))
  pub travels_high : (travel gripper : ℕ) (motor : Motor)
      → TravelsHigh (crane_at (driven_at travel motor) (at gripper)) ↔ (IsDriven motor → 800 ≤ gripper)
  pub rotates_retracted : (arm1 arm2 rotation : ℕ) (motor : Motor)
      → RotatesRetracted (robot_at (at arm1) (at arm2) (driven_at rotation motor))
      ↔ (IsDriven motor → (arm1 ≤ 50) × (arm2 ≤ 50))

-- ---- who drives in a zone, and who rests

-- the robot, by the motors of both arms and its rotation
abbrev pub arms_driven : Motor → Motor → ℕ → PlantState
arms_driven arm1 arm2 rotation = with_robot (driven_at 300 arm1) (driven_at 300 arm2) (at rotation)

pub record DrivingBounds : Type 0 where
  pub press : (errand : GripperErrand) (press : ℕ) (motor : Motor)
      → DrivesIn errand (with_press (driven_at press motor)) Press Z3 ↔ IsDriven motor
  pub table_in_z1 : (errand : GripperErrand) (lift turn : ℕ) (height turning : Motor)
      → DrivesIn errand (with_table (driven_at lift height) (driven_at turn turning)) Table Z1
      ↔ (IsDriven height ⊎ IsDriven turning)
  pub table_in_z2 : (errand : GripperErrand) (lift turn : ℕ) (height turning : Motor)
      → DrivesIn errand (with_table (driven_at lift height) (driven_at turn turning)) Table Z2
      ↔ (IsDriven height ⊎ IsDriven turning)
  pub feed_in_z6 : (errand : GripperErrand) (entry last : Option ℕ) (runs : Bool)
      → DrivesIn errand (with_feed (belt_of entry last runs)) Feed Z6 ↔ IsTrue runs
  pub feed_in_z1 : (errand : GripperErrand) (entry last : Option ℕ) (runs : Bool)
      → DrivesIn errand (with_feed (belt_of entry last runs)) Feed Z1 ↔ (IsTrue runs × IsSome last)
  pub deposit_in_z4 : (errand : GripperErrand) (entry last : Option ℕ) (runs : Bool)
      → DrivesIn errand (with_deposit (belt_of entry last runs)) Deposit Z4 ↔ IsTrue runs
  pub deposit_in_z5 : (errand : GripperErrand) (entry last : Option ℕ) (runs : Bool)
      → DrivesIn errand (with_deposit (belt_of entry last runs)) Deposit Z5 ↔ IsTrue runs
  pub robot_in_z2 : (errand : GripperErrand) (arm1 arm2 : Motor) (rotation : ℕ)
      → DrivesIn errand (arms_driven arm1 arm2 rotation) Robot Z2 ↔ (IsDriven arm1 × FromTo 200 400 rotation)
  pub robot_in_z3 : (errand : GripperErrand) (arm1 arm2 : Motor) (rotation : ℕ)
      → DrivesIn errand (arms_driven arm1 arm2 rotation) Robot Z3
      ↔ ((IsDriven arm1 × FromTo 1400 1600 rotation) ⊎ (IsDriven arm2 × FromTo 500 700 rotation))
  pub robot_in_z4 : (errand : GripperErrand) (arm1 arm2 : Motor) (rotation : ℕ)
      → DrivesIn errand (arms_driven arm1 arm2 rotation) Robot Z4 ↔ (IsDriven arm2 × FromTo 1700 1900 rotation)
  pub gripper_in_z5 : (travel gripper : ℕ) (motor : Motor)
      → DrivesIn AtDeposit (with_crane (at travel) (driven_at gripper motor)) Crane Z5 ↔ IsDriven motor
  pub gripper_in_z6 : (travel gripper : ℕ) (motor : Motor)
      → DrivesIn AtFeed (with_crane (at travel) (driven_at gripper motor)) Crane Z6 ↔ IsDriven motor

pub record RestingBounds : Type 0 where
  pub all : (m : Machine) → Rests empty_cell m
  pub feed : (entry last : Option ℕ) (runs : Bool) → Rests (with_feed (belt_of entry last runs)) Feed ↔ (runs ≡ false)
  pub table : (lift turn : ℕ) (height turning : Motor)
      → Rests (with_table (driven_at lift height) (driven_at turn turning)) Table ↔ ((height ≡ Off) × (turning ≡ Off))
  pub robot : (arm1 arm2 rotation : Motor)
      → Rests (with_robot (driven_at 300 arm1) (driven_at 300 arm2) (driven_at 1000 rotation)) Robot
      ↔ ((arm1 ≡ Off) × (arm2 ≡ Off) × (rotation ≡ Off))
  pub press : (press : ℕ) (motor : Motor) → Rests (with_press (driven_at press motor)) Press ↔ (motor ≡ Off)
  pub deposit : (entry last : Option ℕ) (runs : Bool) → Rests (with_deposit (belt_of entry last runs)) Deposit
      ↔ (runs ≡ false)
  pub crane : (travel gripper : ℕ) (motor height : Motor)
      → Rests (with_crane (driven_at travel motor) (driven_at gripper height)) Crane ↔ ((motor ≡ Off) × (height ≡ Off))

-- ---- all demands: each one matters

pub record EachDemand : Type 0 where
  pub arm1_out : ¬ PositionDemands all_free (with_robot (at 51) (at 0) (at 300))
  pub arm2_out : ¬ PositionDemands all_free (with_robot (at 0) (at 51) (at 600))
  pub press_stands : ¬ PositionDemands (held_by Press Z3 OpenIn) (with_press (at 489))
  pub table_stands : ¬ PositionDemands (held_by Table Z1 OpenIn) (with_lift (at 11))
  pub gripper_down : ¬ PositionDemands all_free (with_crane (at 0) (at 799))
  pub end_plate : ¬ PositionDemands all_free (cell_with_plate_at place.FeedEnd)
  pub press_on : ¬ MotorDemands ForTravel all_free (with_press (driven_at 500 Plus))
  pub table_on : ¬ MotorDemands ForTravel all_free (with_lift (driven_at 300 Plus))
  pub feed_on : ¬ MotorDemands ForTravel all_free (feed_runs None None)
  pub deposit_on : ¬ MotorDemands ForTravel all_free (deposit_runs None None)
  pub arm1_on : ¬ MotorDemands ForTravel all_free (with_robot (driven_at 300 Plus) (at 0) (at 300))
  pub arm2_on : ¬ MotorDemands ForTravel all_free (with_robot (at 0) (driven_at 300 Plus) (at 600))
  pub gripper_on : ¬ MotorDemands AtFeed all_free (with_crane (at 0) (driven_at 500 Plus))
