-- What the sensors of the six machines show, and how their actuators move them.
use Rattle.std.specs.Prelude.{ℕ, ◌+◌, ◌-◌, min, Bool, true, false, ◌&&◌, nat_le, nat_lt, if◌then◌else◌}
use Rattle.cell_devices.specs.declared.motor.Motor.{Motor}
use Rattle.cell_devices.specs.declared.motor.Motor.TheVariants.{Off, Plus, Minus}
use Rattle.cell_devices.specs.declared.act.CraneAct.{CraneAct}
use Rattle.cell_devices.specs.declared.act.PressAct.{PressAct}
use Rattle.cell_devices.specs.declared.act.RobotAct.{RobotAct}
use Rattle.cell_devices.specs.declared.act.TableAct.{TableAct}
use Rattle.cell_sensors.specs.declared.sense.CraneSense.{CraneSense}
use Rattle.cell_sensors.specs.declared.sense.DepositSense.{DepositSense}
use Rattle.cell_sensors.specs.declared.sense.FeedSense.{FeedSense}
use Rattle.cell_sensors.specs.declared.sense.PressSense.{PressSense}
use Rattle.cell_sensors.specs.declared.sense.RobotSense.{RobotSense}
use Rattle.cell_sensors.specs.declared.sense.TableSense.{TableSense}
use Rattle.six_by_hand.specs.declared.axis.Axis.{Axis}
use Rattle.six_by_hand.specs.declared.devices.Belt.{Belt}
use Rattle.six_by_hand.specs.declared.devices.Crane.{Crane}
use Rattle.six_by_hand.specs.declared.devices.Press.{Press}
use Rattle.six_by_hand.specs.declared.devices.Robot.{Robot}
use Rattle.six_by_hand.specs.declared.devices.Table.{Table}

-- how far an axis or a belt goes in a turn
abbrev pub step : ℕ
step = 20

-- where a plate is first and last in its belt's light barrier
abbrev pub barrier_first : ℕ
barrier_first = 900

abbrev pub barrier_last : ℕ
barrier_last = 999

-- where an axis is
abbrev pub position : Axis → ℕ
position a = a.at

-- an axis after a turn: it goes a step as its motor is told, and not past its ends
abbrev pub driven : Motor → Axis → Axis
driven Off a = a
driven Plus a = record a { at = min (a.at + step) a.end }
driven Minus a = record a { at = a.at - step }

-- a switch from the first position to the last is on
abbrev pub is_between : ℕ → ℕ → Axis → Bool
is_between first last a = nat_le first a.at && nat_le a.at last

-- a belt's plate is in its light barrier
abbrev pub is_in_barrier : Belt → Bool
is_in_barrier b = nat_le barrier_first b.plate && nat_le b.plate barrier_last

-- a belt after a turn: when it stops after the barrier, its plate has left, and the next one comes
abbrev pub carried : Bool → Belt → Belt
carried true b = record { plate = min (b.plate + step) 65535 }
carried false b = if nat_lt barrier_last b.plate then record { plate = 0 } else b

-- what the sensors of a machine show
abbrev pub feed_sense : Belt → FeedSense
feed_sense b = record { barrier = is_in_barrier b }

abbrev pub deposit_sense : Belt → DepositSense
deposit_sense b = record { barrier = is_in_barrier b }

abbrev pub table_sense : Table → TableSense
table_sense d = record { bottom = is_between 0 10 d.height; top = is_between 590 600 d.height; turn = position d.turn }

abbrev pub robot_sense : Robot → RobotSense
robot_sense d = record { arm1 = position d.arm1; arm2 = position d.arm2; rotation = position d.rotation }

abbrev pub press_sense : Press → PressSense
press_sense d =
    record {
      bottom = is_between 0 10 d.height;
      middle = is_between 490 510 d.height;
      top = is_between 990 1000 d.height;
    }

abbrev pub crane_sense : Crane → CraneSense
crane_sense d =
    record {
      deposit = is_between 0 10 d.travel;
      feed = is_between 1990 2000 d.travel;
      gripper = position d.gripper;
    }

-- a machine after a turn in which it is told this
abbrev pub table_after : TableAct → Table → Table
table_after told d = record { height = driven told.height d.height; turn = driven told.rotation d.turn }

abbrev pub robot_after : RobotAct → Robot → Robot
robot_after told d =
    record {
      arm1 = driven told.arm1 d.arm1;
      arm2 = driven told.arm2 d.arm2;
      rotation = driven told.rotation d.rotation;
    }

abbrev pub press_after : PressAct → Press → Press
press_after told d = record { height = driven told.press d.height }

abbrev pub crane_after : CraneAct → Crane → Crane
crane_after told d = record { travel = driven told.travel d.travel; gripper = driven told.height d.gripper }
