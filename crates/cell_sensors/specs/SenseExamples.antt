-- The sensors of each machine out of the fourteen, and which switches exclude each other.
use Rattle.std.specs.Prelude.{◌≡◌, Bool, true, false}
use Rattle.cell_sensors.specs.Sensors.{TableClashes, PressClashes, CraneClashes, SwitchesClash, feed_sense, table_sense}
use Rattle.cell_sensors.specs.Sensors.{robot_sense, press_sense, deposit_sense, crane_sense}
use Rattle.cell_sensors.specs.declared.sense.TableSense.{TableSense}
use Rattle.cell_sensors.specs.declared.sense.PressSense.{PressSense}
use Rattle.cell_sensors.specs.declared.sense.CraneSense.{CraneSense}
use Rattle.cell_sensors.specs.declared.sense.SensorVector.{SensorVector}

-- each raw value is another one, and of each machine one switch is on
abbrev pub fourteen : SensorVector
fourteen = record {
  press_bottom = false;
  press_middle = true;
  press_top = false;
  arm1 = 1;
  arm2 = 2;
  rotation = 3;
  table_bottom = true;
  table_top = false;
  table_turn = 4;
  crane_deposit = false;
  crane_feed = true;
  gripper = 5;
  deposit_barrier = true;
  feed_barrier = false;
}

pub record MachineExamples : Type 0 where
  pub feed : (feed_sense fourteen).barrier ≡ false
  pub table_low : (table_sense fourteen).bottom ≡ true
  pub table_high : (table_sense fourteen).top ≡ false
  pub table_turn : (table_sense fourteen).turn ≡ 4
  pub arm1 : (robot_sense fourteen).arm1 ≡ 1
  pub arm2 : (robot_sense fourteen).arm2 ≡ 2
  pub rotation : (robot_sense fourteen).rotation ≡ 3
  pub press_low : (press_sense fourteen).bottom ≡ false
  pub press_middle : (press_sense fourteen).middle ≡ true
  pub press_high : (press_sense fourteen).top ≡ false
  pub press_bottom_alone : press_sense (record fourteen { press_bottom = true; press_middle = false })
      ≡ record { bottom = true; middle = false; top = false }
  pub deposit : (deposit_sense fourteen).barrier ≡ true
  pub crane_at_deposit : (crane_sense fourteen).deposit ≡ false
  pub crane_at_feed : (crane_sense fourteen).feed ≡ true
  pub gripper : (crane_sense fourteen).gripper ≡ 5

abbrev pub table_by : Bool → Bool → TableSense
table_by bottom top = record { bottom = bottom; top = top; turn = 700 }

abbrev pub press_by : Bool → Bool → Bool → PressSense
press_by bottom middle top = record { bottom = bottom; middle = middle; top = top }

abbrev pub crane_by : Bool → Bool → CraneSense
crane_by deposit feed = record { deposit = deposit; feed = feed; gripper = 900 }

pub record ClashExamples : Type 0 where
  pub table_both : TableClashes (table_by true true)
  pub table_at_bottom : ¬ TableClashes (table_by true false)
  pub table_at_top : ¬ TableClashes (table_by false true)
  pub press_low_and_middle : PressClashes (press_by true true false)
  pub press_low_and_high : PressClashes (press_by true false true)
  pub press_middle_and_high : PressClashes (press_by false true true)
  pub press_all : PressClashes (press_by true true true)
  pub press_at_bottom : ¬ PressClashes (press_by true false false)
  pub press_at_middle : ¬ PressClashes (press_by false true false)
  pub press_at_top : ¬ PressClashes (press_by false false true)
  pub press_between : ¬ PressClashes (press_by false false false)
  pub crane_both : CraneClashes (crane_by true true)
  pub crane_at_deposit : ¬ CraneClashes (crane_by true false)
  pub crane_at_feed : ¬ CraneClashes (crane_by false true)

-- a clash of one machine's switches is one of the cell's
pub record CellClashExamples : Type 0 where
  pub none : ¬ SwitchesClash fourteen
  pub press : SwitchesClash (record fourteen { press_top = true })
  pub table : SwitchesClash (record fourteen { table_top = true })
  pub crane : SwitchesClash (record fourteen { crane_deposit = true })

pub record SenseExamples : Type 0 where
  pub machines : MachineExamples
  pub clashes : ClashExamples
  pub cell : CellClashExamples
