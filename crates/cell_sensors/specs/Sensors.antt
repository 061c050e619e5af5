-- The sensors by machine, and the switches that exclude each other.
use Rattle.std.specs.Prelude.{IsTrue, ◌⊎◌}
use Rattle.cell_sensors.specs.declared.sense.TableSense.{TableSense}
use Rattle.cell_sensors.specs.declared.sense.PressSense.{PressSense}
use Rattle.cell_sensors.specs.declared.sense.CraneSense.{CraneSense}
use Rattle.cell_sensors.specs.declared.sense.FeedSense.{FeedSense}
use Rattle.cell_sensors.specs.declared.sense.RobotSense.{RobotSense}
use Rattle.cell_sensors.specs.declared.sense.DepositSense.{DepositSense}
use Rattle.cell_sensors.specs.declared.sense.SensorVector.{SensorVector}

-- the switches at both ends of the table's height are on
abbrev pub TableClashes : TableSense → Type 0
TableClashes s = IsTrue s.bottom × IsTrue s.top

-- the switches at two positions of the press are on
abbrev pub PressClashes : PressSense → Type 0
PressClashes s =
    ((IsTrue s.bottom × IsTrue s.middle) ⊎ (IsTrue s.bottom × IsTrue s.top))
    ⊎ (IsTrue s.middle × IsTrue s.top)

-- the switches at both ends of the crane's travel are on
abbrev pub CraneClashes : CraneSense → Type 0
CraneClashes s = IsTrue s.deposit × IsTrue s.feed

-- the sensors of each machine
abbrev pub feed_sense : SensorVector → FeedSense
feed_sense v = record { barrier = v.feed_barrier }

abbrev pub table_sense : SensorVector → TableSense
table_sense v = record { bottom = v.table_bottom; top = v.table_top; turn = v.table_turn }

abbrev pub robot_sense : SensorVector → RobotSense
robot_sense v = record { arm1 = v.arm1; arm2 = v.arm2; rotation = v.rotation }

abbrev pub press_sense : SensorVector → PressSense
press_sense v = record { bottom = v.press_bottom; middle = v.press_middle; top = v.press_top }

abbrev pub deposit_sense : SensorVector → DepositSense
deposit_sense v = record { barrier = v.deposit_barrier }

abbrev pub crane_sense : SensorVector → CraneSense
crane_sense v = record { deposit = v.crane_deposit; feed = v.crane_feed; gripper = v.gripper }

-- a machine has two switches on that exclude each other
abbrev pub SwitchesClash : SensorVector → Type 0
SwitchesClash v = (PressClashes (press_sense v) ⊎ TableClashes (table_sense v)) ⊎ CraneClashes (crane_sense v)
