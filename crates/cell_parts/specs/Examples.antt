-- What the examples of the plant are made of. What isn't named is as at the start in a cell without plates.
use Rattle.std.specs.Prelude.{◌≡◌, ℕ, ◌≤◌, pos, Bool, false, ◌⊎◌, Option, Some, None, option_map}
use Rattle.cell_rules.specs.Types.{Machine, Zone, Posture, Place}
use Rattle.cell_devices.specs.declared.motor.Motor.{Motor}
use Rattle.cell_devices.specs.declared.motor.Motor.TheVariants.{Off, Plus, Minus}
use Rattle.cell_rules.specs.Names.{empty, insert_place, put_zone, ModelState, start_state}
use Rattle.cell_rules.specs.declared.zones.ZoneState.{ZoneState}
use Rattle.cell_parts.specs.declared.axis.Axis.{Axis}
use Rattle.cell_parts.specs.declared.belt.Belt.{Belt}
use Rattle.cell_parts.specs.declared.plant.TablePlant.{TablePlant}
use Rattle.cell_parts.specs.declared.plant.RobotPlant.{RobotPlant}
use Rattle.cell_parts.specs.declared.plant.CranePlant.{CranePlant}
use Rattle.cell_parts.specs.declared.plant.PlantState.{PlantState}
use Rattle.cell_parts.specs.Plant.{plant_at_start}

-- numbers from a first to a last, both included
abbrev pub FromTo : ℕ → ℕ → ℕ → Type 0
FromTo first last n = (first ≤ n) × (n ≤ last)

-- a motor that drives, either way
abbrev pub IsDriven : Motor → Type 0
IsDriven motor = (motor ≡ Plus) ⊎ (motor ≡ Minus)

-- the cell at the start: without plates, and with one at a place
abbrev pub empty_cell : PlantState
empty_cell = plant_at_start (start_state empty 0)

abbrev pub cell_with_plate_at : Place → PlantState
cell_with_plate_at p = plant_at_start (start_state (insert_place empty p) 0)

-- an axis that is driven, and an axis at rest
abbrev pub driven_at : ℕ → Motor → Axis
driven_at position motor = record { position = pos position; motor = motor }

abbrev pub at : ℕ → Axis
at position = driven_at position Off

-- parts of the plant: the robot by both arms and its rotation, with given magnets or both off; the crane by its travel
-- and its gripper
abbrev pub robot_with : Axis → Axis → Axis → Bool → Bool → RobotPlant
robot_with arm1 arm2 rotation magnet1 magnet2 = record {
  arm1 = arm1;
  arm2 = arm2;
  rotation = rotation;
  magnet1 = magnet1;
  magnet2 = magnet2;
}

abbrev pub robot_at : Axis → Axis → Axis → RobotPlant
robot_at arm1 arm2 rotation = robot_with arm1 arm2 rotation false false

abbrev pub table_at : Axis → Axis → TablePlant
table_at lift turn = record { lift = lift; turn = turn }

abbrev pub crane_with : Axis → Axis → Bool → CranePlant
crane_with travel gripper magnet = record { travel = travel; gripper = gripper; magnet = magnet }

abbrev pub crane_at : Axis → Axis → CranePlant
crane_at travel gripper = crane_with travel gripper false

-- a belt by the plates at its entry and its end, each absent or at a position; by its end's alone, by its entry's
-- alone, and by both
abbrev pub belt_of : Option ℕ → Option ℕ → Bool → Belt
belt_of entry last runs = record {
  entry = option_map (λ p. pos p) entry;
  last = option_map (λ p. pos p) last;
  runs = runs;
}

abbrev pub belt_with : Option ℕ → Bool → Belt
belt_with last runs = belt_of None last runs

abbrev pub belt_entered_at : ℕ → Bool → Belt
belt_entered_at p runs = belt_of (Some p) None runs

abbrev pub belt_at : ℕ → ℕ → Bool → Belt
belt_at entry last runs = belt_of (Some entry) (Some last) runs

-- the cell with another belt, table, robot or crane
abbrev pub with_feed : Belt → PlantState
with_feed b = record empty_cell { feed = b }

abbrev pub with_deposit : Belt → PlantState
with_deposit b = record empty_cell { deposit = b }

abbrev pub with_table : Axis → Axis → PlantState
with_table lift turn = record empty_cell { table = table_at lift turn }

abbrev pub with_robot : Axis → Axis → Axis → PlantState
with_robot arm1 arm2 rotation = record empty_cell { robot = robot_at arm1 arm2 rotation }

abbrev pub with_crane : Axis → Axis → PlantState
with_crane travel gripper = record empty_cell { crane = crane_at travel gripper }

-- the cell with another axis
abbrev pub with_press : Axis → PlantState
with_press a = record empty_cell { press = a }

abbrev pub with_arm1 : Axis → PlantState
with_arm1 a = with_robot a (at 0) (at 300)

abbrev pub with_arm2 : Axis → PlantState
with_arm2 a = with_robot (at 0) a (at 300)

abbrev pub with_rotation : Axis → PlantState
with_rotation a = with_robot (at 0) (at 0) a

abbrev pub with_lift : Axis → PlantState
with_lift a = with_table a (at 0)

abbrev pub with_turn : Axis → PlantState
with_turn a = with_table (at 0) a

abbrev pub with_travel : Axis → PlantState
with_travel a = with_crane a (at 900)

abbrev pub with_gripper : Axis → PlantState
with_gripper a = with_crane (at 0) a

-- the interlock with all zones free; a state in which a machine also holds a zone in a posture; and one in which
-- nothing else is held
abbrev pub all_free : ModelState
all_free = start_state empty 0

abbrev pub zone_of : Machine → Posture → ZoneState
zone_of m q = record { owner = Some m; flag = false; posture = q }

abbrev pub with_zone : ModelState → Machine → Zone → Posture → ModelState
with_zone s m z q = record s { zones = put_zone s.zones z (zone_of m q) }

abbrev pub held_by : Machine → Zone → Posture → ModelState
held_by m z q = with_zone all_free m z q
