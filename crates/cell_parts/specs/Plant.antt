-- The plant: the positions of its axes and plates, and the last commands to its motors, belts and magnets.
use Rattle.std.specs.Prelude.{ℤ, pos, ◌+ℤ◌, ◌-ℤ◌, Bool, false, ◌&&◌, if◌then◌else◌, Option, Some, None, option_map}
use Rattle.std.specs.Int.{int_min, int_max}
use Rattle.cell_rules.specs.Types.{Feed, Deposit, Z1, Z4, Z5, Z6, FeedEntry, FeedEnd, Arm1, Arm2, DepEntry, DepEnd}
use Rattle.cell_rules.specs.Types.{Call, Give, Take, Advance, Event, same_machine}
use Rattle.cell_types.specs.declared.place.Place.TheVariants.{Crane}
use Rattle.cell_devices.specs.declared.motor.Motor.{Motor}
use Rattle.cell_devices.specs.declared.motor.Motor.TheVariants.{Off, Plus, Minus}
use Rattle.cell_devices.specs.declared.act.FeedAct.{FeedAct}
use Rattle.cell_devices.specs.declared.act.TableAct.{TableAct}
use Rattle.cell_devices.specs.declared.act.RobotAct.{RobotAct}
use Rattle.cell_devices.specs.declared.act.PressAct.{PressAct}
use Rattle.cell_devices.specs.declared.act.DepositAct.{DepositAct}
use Rattle.cell_devices.specs.declared.act.CraneAct.{CraneAct}
use Rattle.cell_rules.specs.Names.{ModelState, is_full, is_done}
use Rattle.cell_parts.specs.declared.axis.Axis.{Axis}
use Rattle.cell_parts.specs.declared.belt.Belt.{Belt}
use Rattle.cell_parts.specs.declared.plant.TablePlant.{TablePlant}
use Rattle.cell_parts.specs.declared.plant.RobotPlant.{RobotPlant}
use Rattle.cell_parts.specs.declared.plant.CranePlant.{CranePlant}
use Rattle.cell_parts.specs.declared.plant.PlantState.{PlantState}
use Rattle.cell_parts.specs.Axes.{press_end, arm_end, rotation_end, lift_end, turn_end, crane_end, gripper_end, speed}
use Rattle.cell_parts.specs.Axes.{rotation_start, gripper_start, belt_end, feed_plate_start, deposit_plate_start}
use Rattle.cell_parts.specs.Axes.{IsWithin}

-- a machine's part of the plant, with the scales of its potentiometers
pub record Scaled (Plant Scales : Type 0) : Type 0 where
  pub plant : Plant
  pub scale : Scales

-- The start: every motor and belt is off, each full place has its plate, and the magnet of an arm or a crane is on if
-- it has a plate.
abbrev pub axis_at_rest : ℤ → Axis
axis_at_rest p = record { position = p; motor = Off }

abbrev pub plate_if : Bool → ℤ → Option ℤ
plate_if full p = if full then Some p else None

abbrev pub feed_at_start : ModelState → Belt
feed_at_start s = record {
  entry = plate_if (is_full s FeedEntry) (pos 0);
  last = plate_if (is_full s FeedEnd) feed_plate_start;
  runs = false;
}

abbrev pub deposit_at_start : ModelState → Belt
deposit_at_start s = record {
  entry = plate_if (is_full s DepEntry) (pos 0);
  last = plate_if (is_full s DepEnd) deposit_plate_start;
  runs = false;
}

abbrev pub table_at_start : TablePlant
table_at_start = record { lift = axis_at_rest (pos 0); turn = axis_at_rest (pos 0) }

abbrev pub robot_at_start : ModelState → RobotPlant
robot_at_start s =
    record {
      arm1 = axis_at_rest (pos 0);
      arm2 = axis_at_rest (pos 0);
      rotation = axis_at_rest rotation_start;
      magnet1 = is_full s Arm1;
      magnet2 = is_full s Arm2;
    }

abbrev pub press_at_start : Axis
press_at_start = axis_at_rest press_end

abbrev pub crane_at_start : ModelState → CranePlant
crane_at_start s = record {
  travel = axis_at_rest (pos 0);
  gripper = axis_at_rest gripper_start;
  magnet = is_full s Crane;
}

abbrev pub plant_at_start : ModelState → PlantState
plant_at_start s =
    record {
      feed = feed_at_start s;
      table = table_at_start;
      robot = robot_at_start s;
      press = press_at_start;
      deposit = deposit_at_start s;
      crane = crane_at_start s;
    }

-- A part obeys a command, which sets its motors, belt and magnets.
abbrev pub set_axis : Axis → Motor → Axis
set_axis a motor = record { position = a.position; motor = motor }

abbrev pub set_belt : Belt → Bool → Belt
set_belt b runs = record { entry = b.entry; last = b.last; runs = runs }

abbrev pub set_feed : Belt → FeedAct → Belt
set_feed b act = set_belt b act.belt

abbrev pub set_deposit : Belt → DepositAct → Belt
set_deposit b act = set_belt b act.belt

abbrev pub set_table : TablePlant → TableAct → TablePlant
set_table t act = record { lift = set_axis t.lift act.height; turn = set_axis t.turn act.rotation }

abbrev pub set_robot : RobotPlant → RobotAct → RobotPlant
set_robot r act =
    record {
      arm1 = set_axis r.arm1 act.arm1;
      arm2 = set_axis r.arm2 act.arm2;
      rotation = set_axis r.rotation act.rotation;
      magnet1 = act.magnet1;
      magnet2 = act.magnet2;
    }

abbrev pub set_press : Axis → PressAct → Axis
set_press a act = set_axis a act.press

abbrev pub set_crane : CranePlant → CraneAct → CranePlant
set_crane c act = record {
  travel = set_axis c.travel act.travel;
  gripper = set_axis c.gripper act.height;
  magnet = act.magnet;
}

-- A part moves for a tick. An axis whose motor is on moves by its speed, at most to its end; a running belt carries its
-- plates, at most to its end.
abbrev pub moved_to : ℤ → ℤ → Motor → ℤ
moved_to end p Off = p
moved_to end p Plus = int_min (p +ℤ speed) end
moved_to end p Minus = int_max (p -ℤ speed) (pos 0)

abbrev pub moved_axis : ℤ → Axis → Axis
moved_axis end a = record { position = moved_to end a.position a.motor; motor = a.motor }

abbrev pub moved_plate : Option ℤ → Option ℤ
moved_plate plate = option_map (λ p. int_min (p +ℤ speed) belt_end) plate

abbrev pub moved_belt : Belt → Belt
moved_belt b = if b.runs then record { entry = moved_plate b.entry; last = moved_plate b.last; runs = b.runs } else b

abbrev pub moved_table : TablePlant → TablePlant
moved_table t = record { lift = moved_axis lift_end t.lift; turn = moved_axis turn_end t.turn }

abbrev pub moved_robot : RobotPlant → RobotPlant
moved_robot r = record r {
  arm1 = moved_axis arm_end r.arm1;
  arm2 = moved_axis arm_end r.arm2;
  rotation = moved_axis rotation_end r.rotation;
}

abbrev pub moved_press : Axis → Axis
moved_press a = moved_axis press_end a

abbrev pub moved_crane : CranePlant → CranePlant
moved_crane c = record c { travel = moved_axis crane_end c.travel; gripper = moved_axis gripper_end c.gripper }

-- What a belt notes of a Done call of its own machine. A take puts a plate at its entry. An advance counts that plate
-- as the one at the end, and doesn't move it. A give removes the plate at the end.
abbrev pub advanced : Belt → Belt
advanced b = record { entry = None; last = b.entry; runs = b.runs }

abbrev pub loaded_belt : Belt → Belt
loaded_belt b = record { entry = Some (pos 0); last = b.last; runs = b.runs }

abbrev pub unloaded_belt : Belt → Belt
unloaded_belt b = record { entry = b.entry; last = None; runs = b.runs }

abbrev pub feed_called : Belt → Call → Belt
feed_called b (Take Z6) = loaded_belt b
feed_called b Advance = advanced b
feed_called b (Give Z1) = unloaded_belt b
feed_called b _ = b

abbrev pub deposit_called : Belt → Call → Belt
deposit_called b (Take Z4) = loaded_belt b
deposit_called b Advance = advanced b
deposit_called b (Give Z5) = unloaded_belt b
deposit_called b _ = b

abbrev pub noted_by_feed : Belt → Event → Belt
noted_by_feed b e = if is_done e && same_machine e.machine Feed then feed_called b e.call else b

abbrev pub noted_by_deposit : Belt → Event → Belt
noted_by_deposit b e = if is_done e && same_machine e.machine Deposit then deposit_called b e.call else b

-- each axis is within its ends
pub record StaysWithin (p : PlantState) : Type 0 where
  pub press : IsWithin press_end p.press.position
  pub arm1 : IsWithin arm_end p.robot.arm1.position
  pub arm2 : IsWithin arm_end p.robot.arm2.position
  pub rotation : IsWithin rotation_end p.robot.rotation.position
  pub lift : IsWithin lift_end p.table.lift.position
  pub turn : IsWithin turn_end p.table.turn.position
  pub travel : IsWithin crane_end p.crane.travel.position
  pub gripper : IsWithin gripper_end p.crane.gripper.position
