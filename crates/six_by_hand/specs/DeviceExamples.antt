-- Literal sensors and moves of the six machines.
use Rattle.std.specs.Prelude.{◌≡◌, ℕ, Bool, true, false, [], ◌∷◌, map}
use Rattle.cell_devices.specs.declared.motor.Motor.{Motor}
use Rattle.cell_devices.specs.declared.motor.Motor.TheVariants.{Off, Plus, Minus}
use Rattle.cell_devices.specs.declared.act.RobotAct.{RobotAct}
use Rattle.cell_sensors.specs.declared.sense.CraneSense.{CraneSense}
use Rattle.cell_sensors.specs.declared.sense.PressSense.{PressSense}
use Rattle.cell_sensors.specs.declared.sense.TableSense.{TableSense}
use Rattle.six_by_hand.specs.declared.axis.Axis.{Axis}
use Rattle.six_by_hand.specs.declared.devices.Belt.{Belt}
use Rattle.six_by_hand.specs.declared.devices.Crane.{Crane}
use Rattle.six_by_hand.specs.declared.devices.Press.{Press}
use Rattle.six_by_hand.specs.declared.devices.Robot.{Robot}
use Rattle.six_by_hand.specs.declared.devices.Table.{Table}
use Rattle.six_by_hand.specs.Devices.{carried, crane_after, crane_sense, deposit_sense, driven, feed_sense}
use Rattle.six_by_hand.specs.Devices.{press_after, press_sense, robot_after, robot_sense, table_after, table_sense}

-- an axis that goes to 2000, and is here
abbrev pub axis : ℕ → Axis
axis at = record { at = at; end = 2000 }

abbrev pub belt : ℕ → Belt
belt plate = record { plate = plate }

abbrev pub table : ℕ → ℕ → Table
table height turn = record { height = axis height; turn = axis turn }

abbrev pub robot : ℕ → ℕ → ℕ → Robot
robot arm1 arm2 rotation = record { arm1 = axis arm1; arm2 = axis arm2; rotation = axis rotation }

abbrev pub press : ℕ → Press
press height = record { height = axis height }

abbrev pub crane : ℕ → ℕ → Crane
crane travel gripper = record { travel = axis travel; gripper = axis gripper }

-- what a table with its rotation at 7 shows, by its switches
abbrev pub table_shows : Bool → Bool → TableSense
table_shows bottom top = record { bottom = bottom; top = top; turn = 7 }

abbrev pub press_shows : Bool → Bool → Bool → PressSense
press_shows bottom middle top = record { bottom = bottom; middle = middle; top = top }

-- what a crane with its gripper at 8 shows, by its switches
abbrev pub crane_shows : Bool → Bool → CraneSense
crane_shows deposit feed = record { deposit = deposit; feed = feed; gripper = 8 }

-- the robot is told to move its arms and to turn
abbrev pub told : Motor → Motor → Motor → RobotAct
told arm1 arm2 rotation =
    record { arm1 = arm1; arm2 = arm2; rotation = rotation; magnet1 = true; magnet2 = false }

-- at the first and the last position at which a switch is on, and beside them
pub record SensorsAreMet : Type 0 where
  pub feed : map (λ n. (feed_sense (belt n)).barrier) (899 ∷ 900 ∷ 999 ∷ 1000 ∷ [])
      ≡ false ∷ true ∷ true ∷ false ∷ []
  pub deposit : map (λ n. (deposit_sense (belt n)).barrier) (899 ∷ 900 ∷ 999 ∷ 1000 ∷ [])
      ≡ false ∷ true ∷ true ∷ false ∷ []
  pub table_low : map (λ n. table_sense (table n 7)) (0 ∷ 10 ∷ 11 ∷ [])
      ≡ table_shows true false ∷ table_shows true false ∷ table_shows false false ∷ []
  pub table_high : map (λ n. table_sense (table n 7)) (589 ∷ 590 ∷ 600 ∷ 601 ∷ [])
      ≡ table_shows false false ∷ table_shows false true ∷ table_shows false true ∷ table_shows false false ∷ []
  pub robot_far : robot_sense (robot 1999 20 700) ≡ record { arm1 = 1999; arm2 = 20; rotation = 700 }
  pub robot : robot_sense (robot 1 2 3) ≡ record { arm1 = 1; arm2 = 2; rotation = 3 }
  pub press_low : map (λ n. press_sense (press n)) (0 ∷ 10 ∷ 11 ∷ 489 ∷ [])
      ≡ press_shows true false false ∷ press_shows true false false ∷ press_shows false false false
      ∷ press_shows false false false ∷ []
  pub press_high : map (λ n. press_sense (press n)) (490 ∷ 510 ∷ 511 ∷ 989 ∷ 990 ∷ 1000 ∷ 1001 ∷ [])
      ≡ press_shows false true false ∷ press_shows false true false ∷ press_shows false false false
      ∷ press_shows false false false ∷ press_shows false false true ∷ press_shows false false true
      ∷ press_shows false false false ∷ []
  pub turned : (table_sense (table 300 1234)).turn ≡ 1234
  pub lowered : (crane_sense (crane 1000 321)).gripper ≡ 321
  pub crane : map (λ n. crane_sense (crane n 8)) (0 ∷ 10 ∷ 11 ∷ 1989 ∷ 1990 ∷ 2000 ∷ [])
      ≡ crane_shows true false ∷ crane_shows true false ∷ crane_shows false false ∷ crane_shows false false
      ∷ crane_shows false true ∷ crane_shows false true ∷ []

-- a step of 20, and none past the ends
pub record MovesAreMet : Type 0 where
  pub off : driven Off (axis 100) ≡ axis 100
  -- each axis has its own end
  pub short : map (λ at. driven Plus (record { at = at; end = 110 })) (0 ∷ 89 ∷ 90 ∷ 91 ∷ 110 ∷ [])
      ≡ record { at = 20; end = 110 } ∷ record { at = 109; end = 110 } ∷ record { at = 110; end = 110 }
      ∷ record { at = 110; end = 110 } ∷ record { at = 110; end = 110 } ∷ []
  pub stays : driven Off (record { at = 110; end = 110 }) ≡ record { at = 110; end = 110 }
  pub back : map (λ at. driven Minus (record { at = at; end = 500 })) (500 ∷ 21 ∷ 20 ∷ 19 ∷ 0 ∷ [])
      ≡ record { at = 480; end = 500 } ∷ record { at = 1; end = 500 } ∷ record { at = 0; end = 500 }
      ∷ record { at = 0; end = 500 } ∷ record { at = 0; end = 500 } ∷ []
  pub plus : driven Plus (axis 100) ≡ axis 120
  pub to_end : driven Plus (axis 1990) ≡ axis 2000
  pub minus : driven Minus (axis 100) ≡ axis 80
  pub to_beginning : driven Minus (axis 15) ≡ axis 0
  pub runs : carried true (belt 999) ≡ belt 1019
  pub runs_long : carried true (belt 65530) ≡ belt 65535
  pub in_barrier : carried false (belt 999) ≡ belt 999
  pub runs_on : map (carried true) (belt 0 ∷ belt 900 ∷ belt 1000 ∷ belt 65515 ∷ belt 65516 ∷ [])
      ≡ belt 20 ∷ belt 920 ∷ belt 1020 ∷ belt 65535 ∷ belt 65535 ∷ []
  pub stops : map (carried false) (belt 0 ∷ belt 899 ∷ belt 900 ∷ belt 1020 ∷ belt 65535 ∷ [])
      ≡ belt 0 ∷ belt 899 ∷ belt 900 ∷ belt 0 ∷ belt 0 ∷ []
  pub has_left : carried false (belt 1000) ≡ belt 0
  pub table_back : table_after (record { height = Off; rotation = Plus }) (table 100 200) ≡ table 100 220
  pub table : table_after (record { height = Plus; rotation = Minus }) (table 100 200) ≡ table 120 180
  pub arms : robot_after (told Plus Minus Off) (robot 100 200 300) ≡ robot 120 180 300
  pub turns : robot_after (told Off Off Plus) (robot 100 200 300) ≡ robot 100 200 320
  pub press_up : press_after (record { press = Plus }) (press 960) ≡ press 980
  pub press_waits : press_after (record { press = Off }) (press 960) ≡ press 960
  pub press : press_after (record { press = Minus }) (press 1000) ≡ press 980
  pub arms_back : robot_after (told Minus Plus Minus) (robot 100 200 300) ≡ robot 80 220 280
  pub crane_back : crane_after (record { travel = Minus; height = Off; magnet = false }) (crane 100 200) ≡ crane 80 200
  pub crane : crane_after (record { travel = Plus; height = Minus; magnet = true }) (crane 100 200) ≡ crane 120 180
