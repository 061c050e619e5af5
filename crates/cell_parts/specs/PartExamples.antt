-- Examples of the parts: how they obey commands, how they move, what their sensors show, what they note, and where they
-- start.
use Rattle.std.specs.Prelude.{◌≡◌, ◌≢◌, ◌↔◌, ℕ, ◌≤◌, pos, Bool, true, false, Some, None}
use Rattle.cell_rules.specs.Types.{Machine, Feed, Table, Robot, Press, Deposit, Crane, Zone, Z1, Z4, Z5, Z6, Pose}
use Rattle.cell_rules.specs.Types.{Call, Claim, Give, Yield, Take, Release, SetPose, Advance, Inquire, Done, Refused}
use Rattle.cell_rules.specs.Types.{Stop, Resume}
use Rattle.cell_rules.specs.Types.{Event, NoPlate}
use Rattle.cell_types.specs.declared.place.Place.TheVariants as place
use Rattle.cell_sensors.specs.Names.{Scale, RobotScales}
use Rattle.cell_sensors.specs.declared.sense.FeedSense.{FeedSense}
use Rattle.cell_sensors.specs.declared.sense.TableSense.{TableSense}
use Rattle.cell_sensors.specs.declared.sense.RobotSense.{RobotSense}
use Rattle.cell_sensors.specs.declared.sense.PressSense.{PressSense}
use Rattle.cell_sensors.specs.declared.sense.DepositSense.{DepositSense}
use Rattle.cell_sensors.specs.declared.sense.CraneSense.{CraneSense}
use Rattle.cell_sensors.specs.Examples.{scale_of}
use Rattle.cell_devices.specs.declared.motor.Motor.{Motor}
use Rattle.cell_devices.specs.declared.motor.Motor.TheVariants.{Off, Plus, Minus}
use Rattle.cell_devices.specs.declared.act.FeedAct.{FeedAct}
use Rattle.cell_devices.specs.declared.act.TableAct.{TableAct}
use Rattle.cell_devices.specs.declared.act.RobotAct.{RobotAct}
use Rattle.cell_devices.specs.declared.act.PressAct.{PressAct}
use Rattle.cell_devices.specs.declared.act.DepositAct.{DepositAct}
use Rattle.cell_devices.specs.declared.act.CraneAct.{CraneAct}
use Rattle.cell_rules.specs.Seen.{event}
use Rattle.cell_parts.specs.declared.axis.Axis.{Axis}
use Rattle.cell_parts.specs.declared.belt.Belt.{Belt}
use Rattle.cell_parts.specs.declared.plant.TablePlant.{TablePlant}
use Rattle.cell_parts.specs.declared.plant.RobotPlant.{RobotPlant}
use Rattle.cell_parts.specs.declared.plant.CranePlant.{CranePlant}
use Rattle.cell_parts.specs.Shows.{IsPressBottom, IsPressMiddle, IsPressTop, IsTableBottom, IsTableTop}
use Rattle.cell_parts.specs.Shows.{IsCraneAtDeposit, IsCraneAtFeed, IsInBarrier, ShowsRaw}
use Rattle.cell_parts.specs.Collisions.{NothingCollides}
use Rattle.cell_parts.specs.AtWork.{guests_inside}
use Rattle.cell_parts.specs.Plant.{plant_at_start}
use Rattle.cell_parts.specs.Rigs.{feed_rig, table_rig, robot_rig, press_rig, deposit_rig, crane_rig}
use Rattle.cell_parts.specs.Examples.{FromTo, empty_cell, cell_with_plate_at, driven_at, at, robot_with, robot_at}
use Rattle.cell_parts.specs.Examples.{table_at, crane_with, crane_at, belt_with, belt_entered_at, belt_at}

-- ---- commands: one changes exactly its axis or belt

abbrev pub feed_act : Bool → FeedAct
feed_act belt = record { belt = belt }

abbrev pub deposit_act : Bool → DepositAct
deposit_act belt = record { belt = belt }

abbrev pub table_act : Motor → Motor → TableAct
table_act height rotation = record { height = height; rotation = rotation }

abbrev pub robot_act : Motor → Motor → Motor → Bool → Bool → RobotAct
robot_act arm1 arm2 rotation magnet1 magnet2 = record {
  arm1 = arm1;
  arm2 = arm2;
  rotation = rotation;
  magnet1 = magnet1;
  magnet2 = magnet2;
}

abbrev pub press_act : Motor → PressAct
press_act press = record { press = press }

abbrev pub crane_act : Motor → Motor → Bool → CraneAct
crane_act travel height magnet = record { travel = travel; height = height; magnet = magnet }

-- in these the machine works, and gets another command
abbrev pub robot_at_work : RobotPlant
robot_at_work = robot_with (driven_at 100 Minus) (driven_at 200 Off) (driven_at 300 Plus) false true

abbrev pub crane_at_work : CranePlant
crane_at_work = crane_with (driven_at 1000 Minus) (driven_at 500 Plus) false

pub record SettingExamples (scale : Scale) (scales : RobotScales) : Type 0 where
  pub feed_starts : feed_rig.set (belt_at 0 900 false) (feed_act true) ≡ belt_at 0 900 true
  pub feed_stops : feed_rig.set (belt_at 0 900 true) (feed_act false) ≡ belt_at 0 900 false
  pub table_starts : (table_rig scale).set (table_at (at 300) (at 250)) (table_act Plus Minus)
      ≡ table_at (driven_at 300 Plus) (driven_at 250 Minus)
  pub table_stops : (table_rig scale).set (table_at (driven_at 300 Plus) (driven_at 250 Minus)) (table_act Off Off)
      ≡ table_at (at 300) (at 250)
  pub robot_drives_arms : (robot_rig scales).set robot_at_work (robot_act Plus Minus Off true false)
      ≡ robot_with (driven_at 100 Plus) (driven_at 200 Minus) (at 300) true false
  pub robot_rotates : (robot_rig scales).set robot_at_work (robot_act Off Plus Minus false true)
      ≡ robot_with (at 100) (driven_at 200 Plus) (driven_at 300 Minus) false true
  pub press_starts : press_rig.set (at 500) (press_act Minus) ≡ driven_at 500 Minus
  pub press_stops : press_rig.set (driven_at 500 Plus) (press_act Off) ≡ at 500
  pub deposit_starts : deposit_rig.set (belt_at 0 900 false) (deposit_act true) ≡ belt_at 0 900 true
  pub deposit_stops : deposit_rig.set (belt_at 0 900 true) (deposit_act false) ≡ belt_at 0 900 false
  pub crane_travels : (crane_rig scale).set crane_at_work (crane_act Plus Off true)
      ≡ crane_with (driven_at 1000 Plus) (at 500) true
  pub crane_lowers : (crane_rig scale).set crane_at_work (crane_act Off Minus false)
      ≡ crane_with (at 1000) (driven_at 500 Minus) false

-- ---- moves: 20 a tick, at most to the end

-- an axis that is driven moves by a tick
abbrev pub goes : ℕ → Motor → ℕ → (Axis → Axis) → Type 0
goes start motor end move = move (driven_at start motor) ≡ driven_at end motor

abbrev pub robot_moves : ℕ → ℕ → ℕ → RobotPlant
robot_moves arm1 arm2 rotation =
    robot_with (driven_at arm1 Plus) (driven_at arm2 Minus) (driven_at rotation Plus) true false

abbrev pub robot_moves_back : ℕ → ℕ → ℕ → RobotPlant
robot_moves_back arm1 arm2 rotation =
    robot_with (driven_at arm1 Minus) (driven_at arm2 Plus) (driven_at rotation Minus) false true

abbrev pub crane_moves : ℕ → ℕ → CranePlant
crane_moves travel gripper = crane_with (driven_at travel Plus) (driven_at gripper Minus) true

abbrev pub crane_moves_back : ℕ → ℕ → CranePlant
crane_moves_back travel gripper = crane_with (driven_at travel Minus) (driven_at gripper Plus) false

abbrev pub table_moves : ℕ → ℕ → TablePlant
table_moves lift turn = table_at (driven_at lift Plus) (driven_at turn Plus)

abbrev pub table_moves_back : ℕ → ℕ → TablePlant
table_moves_back lift turn = table_at (driven_at lift Minus) (driven_at turn Minus)

pub record MovingBounds (scale : Scale) (scales : RobotScales) : Type 0 where
  pub press_rises : goes 500 Plus 520 press_rig.moves
  pub press_falls : goes 500 Minus 480 press_rig.moves
  pub press_rests : goes 500 Off 500 press_rig.moves
  pub press_to_top : goes 981 Plus 1000 press_rig.moves
  pub press_to_bottom : goes 19 Minus 0 press_rig.moves
  pub table_on : (table_rig scale).moves (table_moves 300 250) ≡ table_moves 320 270
  pub table_to_its_ends : (table_rig scale).moves (table_moves 581 481) ≡ table_moves 600 500
  pub table_back : (table_rig scale).moves (table_moves_back 300 250) ≡ table_moves_back 280 230
  pub table_to_its_firsts : (table_rig scale).moves (table_moves_back 19 19) ≡ table_moves_back 0 0
  pub robot_on : (robot_rig scales).moves (robot_moves 500 500 1000) ≡ robot_moves 520 480 1020
  pub robot_to_its_ends : (robot_rig scales).moves (robot_moves 981 19 1981) ≡ robot_moves 1000 0 2000
  pub robot_back : (robot_rig scales).moves (robot_moves_back 500 500 1000) ≡ robot_moves_back 480 520 980
  pub robot_to_its_other_ends : (robot_rig scales).moves (robot_moves_back 19 981 19) ≡ robot_moves_back 0 1000 0
  pub crane_on : (crane_rig scale).moves (crane_moves 1000 500) ≡ crane_moves 1020 480
  pub crane_to_its_ends : (crane_rig scale).moves (crane_moves 1981 19) ≡ crane_moves 2000 0
  pub crane_back : (crane_rig scale).moves (crane_moves_back 1000 500) ≡ crane_moves_back 980 520
  pub crane_to_its_other_ends : (crane_rig scale).moves (crane_moves_back 19 981) ≡ crane_moves_back 0 1000
  pub feed_runs : feed_rig.moves (belt_at 0 900 true) ≡ belt_at 20 920 true
  pub feed_to_its_last : feed_rig.moves (belt_at 1080 1081 true) ≡ belt_at 1100 1100 true
  pub feed_plate_stays_there : feed_rig.moves (belt_at 1099 1100 true) ≡ belt_at 1100 1100 true
  pub feed_rests : feed_rig.moves (belt_at 0 900 false) ≡ belt_at 0 900 false
  pub feed_without_plates : feed_rig.moves (belt_with None true) ≡ belt_with None true
  pub deposit_runs : deposit_rig.moves (belt_at 0 900 true) ≡ belt_at 20 920 true
  pub deposit_to_its_last : deposit_rig.moves (belt_at 1080 1081 true) ≡ belt_at 1100 1100 true
  pub deposit_plate_stays_there : deposit_rig.moves (belt_at 1099 1100 true) ≡ belt_at 1100 1100 true
  pub deposit_rests : deposit_rig.moves (belt_at 0 900 false) ≡ belt_at 0 900 false
  pub deposit_without_plates : deposit_rig.moves (belt_with None true) ≡ belt_with None true

-- ---- sensors

pub record SensorBounds : Type 0 where
  pub press_bottom : (p : ℕ) → IsPressBottom (pos p) ↔ (p ≤ 10)
  pub press_middle : (p : ℕ) → IsPressMiddle (pos p) ↔ FromTo 490 510 p
  pub press_top : (p : ℕ) → IsPressTop (pos p) ↔ (990 ≤ p)
  pub table_bottom : (p : ℕ) → IsTableBottom (pos p) ↔ (p ≤ 10)
  pub table_top : (p : ℕ) → IsTableTop (pos p) ↔ (590 ≤ p)
  pub crane_at_deposit : (p : ℕ) → IsCraneAtDeposit (pos p) ↔ (p ≤ 10)
  pub crane_at_feed : (p : ℕ) → IsCraneAtFeed (pos p) ↔ (1990 ≤ p)
  pub barrier : (p : ℕ) → IsInBarrier (Some (pos p)) ↔ FromTo 900 999 p
  pub no_plate_in_it : ¬ IsInBarrier None

-- The sensors show exactly this.
abbrev pub ShowsJust : {Sense : Type 0} → (Sense → Type 0) → Sense → Type 0
ShowsJust {Sense = Sense} shows sense = shows sense × ((other : Sense) → shows other → other ≡ sense)

abbrev pub press_sense : Bool → Bool → Bool → PressSense
press_sense bottom middle top = record { bottom = bottom; middle = middle; top = top }

abbrev pub table_sense : Bool → Bool → ℕ → TableSense
table_sense bottom top turn = record { bottom = bottom; top = top; turn = turn }

abbrev pub robot_sense : ℕ → ℕ → ℕ → RobotSense
robot_sense arm1 arm2 rotation = record { arm1 = arm1; arm2 = arm2; rotation = rotation }

abbrev pub crane_sense : Bool → Bool → ℕ → CraneSense
crane_sense deposit feed gripper = record { deposit = deposit; feed = feed; gripper = gripper }

abbrev pub feed_sense : Bool → FeedSense
feed_sense barrier = record { barrier = barrier }

abbrev pub deposit_sense : Bool → DepositSense
deposit_sense barrier = record { barrier = barrier }

-- a potentiometer shows exactly this raw value at a position
abbrev pub Reads : Scale → ℕ → ℕ → Type 0
Reads scale position raw = ShowsJust (ShowsRaw scale (pos position)) raw

-- scales with no whole number of raw values for a position: one for each potentiometer, one with three for two, and one
-- with other ends
abbrev pub scale_to : ℕ → ℕ → ℕ → Scale
scale_to end raw_lo raw_hi = scale_of raw_lo raw_hi (pos 0) (pos end)

abbrev pub odd_arm1 : Scale
odd_arm1 = scale_to 1000 0 1501

abbrev pub odd_arm2 : Scale
odd_arm2 = scale_to 1000 3 2004

abbrev pub odd_rotation : Scale
odd_rotation = scale_to 2000 7 4094

abbrev pub odd_turn : Scale
odd_turn = scale_to 500 1 1000

abbrev pub odd_gripper : Scale
odd_gripper = scale_to 1000 5 1508

abbrev pub odd_robot : RobotScales
odd_robot = record { arm1 = odd_arm1; arm2 = odd_arm2; rotation = odd_rotation }

abbrev pub three_for_two : Scale
three_for_two = scale_to 1000 0 1500

abbrev pub short_scale : Scale
short_scale = scale_of 10 13 (pos 100) (pos 102)

-- the raw value is rounded down; beyond the ends of a scale it is the nearer end's
pub record RawBounds : Type 0 where
  pub three_for_two_at_0 : Reads three_for_two 0 0
  pub three_for_two_at_1 : Reads three_for_two 1 1
  pub three_for_two_at_999 : Reads three_for_two 999 1498
  pub three_for_two_at_1000 : Reads three_for_two 1000 1500
  pub arm1_at_1 : Reads odd_arm1 1 1
  pub arm1_at_501 : Reads odd_arm1 501 752
  pub arm1_at_999 : Reads odd_arm1 999 1499
  pub arm2_at_1 : Reads odd_arm2 1 5
  pub arm2_at_501 : Reads odd_arm2 501 1005
  pub arm2_at_999 : Reads odd_arm2 999 2001
  pub rotation_at_1 : Reads odd_rotation 1 9
  pub rotation_at_1001 : Reads odd_rotation 1001 2052
  pub rotation_at_1999 : Reads odd_rotation 1999 4091
  pub turn_at_1 : Reads odd_turn 1 2
  pub turn_at_251 : Reads odd_turn 251 502
  pub turn_at_499 : Reads odd_turn 499 998
  pub gripper_at_1 : Reads odd_gripper 1 6
  pub gripper_at_501 : Reads odd_gripper 501 758
  pub gripper_at_999 : Reads odd_gripper 999 1506
  pub before_the_first : Reads short_scale 99 10
  pub at_the_first : Reads short_scale 100 10
  pub in_the_middle : Reads short_scale 101 11
  pub at_the_last : Reads short_scale 102 13
  pub beyond_the_last : Reads short_scale 103 13

pub record ShowingExamples : Type 0 where
  pub press_at_bottom : ShowsJust (press_rig.shows (at 10)) (press_sense true false false)
  pub press_at_middle : ShowsJust (press_rig.shows (at 500)) (press_sense false true false)
  pub press_at_top : ShowsJust (press_rig.shows (at 990)) (press_sense false false true)
  pub press_between : ShowsJust (press_rig.shows (at 489)) (press_sense false false false)
  pub table_at_bottom : ShowsJust ((table_rig odd_turn).shows (table_at (at 10) (at 251))) (table_sense true false 502)
  pub table_at_top : ShowsJust ((table_rig odd_turn).shows (table_at (at 590) (at 499))) (table_sense false true 998)
  pub robot : ShowsJust ((robot_rig odd_robot).shows (robot_at (at 1) (at 999) (at 1001))) (robot_sense 1 2001 2052)
  pub crane_at_deposit : ShowsJust ((crane_rig odd_gripper).shows (crane_at (at 10) (at 999)))
      (crane_sense true false 1506)
  pub crane_at_feed : ShowsJust ((crane_rig odd_gripper).shows (crane_at (at 1990) (at 1))) (crane_sense false true 6)
  pub feed_sees_end : ShowsJust (feed_rig.shows (belt_at 0 900 true)) (feed_sense true)
  pub feed_sees_entry : ShowsJust (feed_rig.shows (belt_at 999 1100 true)) (feed_sense true)
  pub feed_sees_none : ShowsJust (feed_rig.shows (belt_at 899 1000 true)) (feed_sense false)
  pub deposit_sees_end : ShowsJust (deposit_rig.shows (belt_at 0 900 true)) (deposit_sense true)
  pub deposit_sees_entry : ShowsJust (deposit_rig.shows (belt_at 999 1100 true)) (deposit_sense true)
  pub deposit_sees_none : ShowsJust (deposit_rig.shows (belt_at 899 1000 true)) (deposit_sense false)

-- ---- notes: a belt notes its own machine's Done calls, and no others

abbrev pub feed_hears : Machine → Call → Belt → Belt
feed_hears m call b = feed_rig.notes b (event m call Done)

abbrev pub deposit_hears : Machine → Call → Belt → Belt
deposit_hears m call b = deposit_rig.notes b (event m call Done)

-- a belt is changed by its machine's take at one zone, give at another and advance; the machine's other calls leave it
-- as it is
pub record StaysByOtherCalls (hears : Call → Belt → Belt) (taken given : Zone) : Type 0 where
  pub claims : (b : Belt) (z : Zone) → hears (Claim z) b ≡ b
  pub gives : (b : Belt) (z : Zone) → z ≢ given → hears (Give z) b ≡ b
  pub yields : (b : Belt) (z : Zone) → hears (Yield z) b ≡ b
  pub takes : (b : Belt) (z : Zone) → z ≢ taken → hears (Take z) b ≡ b
  pub releases : (b : Belt) (z : Zone) → hears (Release z) b ≡ b
  pub poses : (b : Belt) (p : Pose) → hears (SetPose p) b ≡ b
  pub inquires : (b : Belt) (z : Zone) → hears (Inquire z) b ≡ b
  pub stops : (b : Belt) → hears Stop b ≡ b
  pub resumes : (b : Belt) → hears Resume b ≡ b

pub record NoteBounds (scale : Scale) (scales : RobotScales) : Type 0 where
  pub feed_takes : feed_hears Feed (Take Z6) (belt_with None false) ≡ belt_entered_at 0 false
  pub feed_advances : feed_hears Feed Advance (belt_entered_at 920 false) ≡ belt_with (Some 920) false
  pub feed_gives : feed_hears Feed (Give Z1) (belt_with (Some 1000) false) ≡ belt_with None false
  pub feed_takes_another : feed_hears Feed (Take Z6) (belt_with (Some 920) true) ≡ belt_at 0 920 true
  pub feed_advances_while_it_runs : feed_hears Feed Advance (belt_entered_at 920 true) ≡ belt_with (Some 920) true
  pub feed_gives_before : feed_hears Feed (Give Z1) (belt_at 500 1000 true) ≡ belt_entered_at 500 true
  pub feed_refused : feed_rig.notes (belt_with None false) (event Feed (Take Z6) (Refused NoPlate))
      ≡ belt_with None false
  pub feed_hears_crane : feed_hears Crane (Give Z6) (belt_with (Some 1000) false) ≡ belt_with (Some 1000) false
  pub feed_hears_table : feed_hears Table (Take Z1) (belt_with (Some 1000) false) ≡ belt_with (Some 1000) false
  pub feed_hears_press : feed_hears Press Advance (belt_entered_at 920 false) ≡ belt_entered_at 920 false
  pub feed_stays : StaysByOtherCalls (feed_hears Feed) Z6 Z1
  pub deposit_takes : deposit_hears Deposit (Take Z4) (belt_with None false) ≡ belt_entered_at 0 false
  pub deposit_advances : deposit_hears Deposit Advance (belt_entered_at 1000 false) ≡ belt_with (Some 1000) false
  pub deposit_gives : deposit_hears Deposit (Give Z5) (belt_with (Some 1000) false) ≡ belt_with None false
  pub deposit_takes_another : deposit_hears Deposit (Take Z4) (belt_with (Some 920) true) ≡ belt_at 0 920 true
  pub deposit_advances_while_it_runs : deposit_hears Deposit Advance (belt_entered_at 1000 true)
      ≡ belt_with (Some 1000) true
  pub deposit_gives_before : deposit_hears Deposit (Give Z5) (belt_at 500 1000 true) ≡ belt_entered_at 500 true
  pub deposit_refused : deposit_rig.notes (belt_with None false) (event Deposit (Take Z4) (Refused NoPlate))
      ≡ belt_with None false
  pub deposit_hears_robot : deposit_hears Robot (Give Z4) (belt_with None false) ≡ belt_with None false
  pub deposit_hears_crane : deposit_hears Crane (Take Z5) (belt_with (Some 1000) false) ≡ belt_with (Some 1000) false
  pub deposit_hears_feed : deposit_hears Feed Advance (belt_entered_at 1000 false) ≡ belt_entered_at 1000 false
  pub deposit_stays : StaysByOtherCalls (deposit_hears Deposit) Z4 Z5
  pub table_notes_nothing : (t : TablePlant) (e : Event) → (table_rig scale).notes t e ≡ t
  pub robot_notes_nothing : (r : RobotPlant) (e : Event) → (robot_rig scales).notes r e ≡ r
  pub press_notes_nothing : (a : Axis) (e : Event) → press_rig.notes a e ≡ a
  pub crane_notes_nothing : (c : CranePlant) (e : Event) → (crane_rig scale).notes c e ≡ c

-- ---- the start

pub record StartValues : Type 0 where
  pub no_plate_on_feed : empty_cell.feed ≡ belt_with None false
  pub no_plate_on_deposit : empty_cell.deposit ≡ belt_with None false
  pub table : empty_cell.table ≡ table_at (at 0) (at 0)
  pub robot : empty_cell.robot ≡ robot_at (at 0) (at 0) (at 300)
  pub press : empty_cell.press ≡ at 1000
  pub crane : empty_cell.crane ≡ crane_at (at 0) (at 900)
  pub feed_entry : (cell_with_plate_at place.FeedEntry).feed ≡ belt_entered_at 0 false
  pub feed_end : (cell_with_plate_at place.FeedEnd).feed ≡ belt_with (Some 900) false
  pub deposit_entry : (cell_with_plate_at place.DepEntry).deposit ≡ belt_entered_at 0 false
  pub deposit_end : (cell_with_plate_at place.DepEnd).deposit ≡ belt_with (Some 1000) false
  pub arm1_loaded : (cell_with_plate_at place.Arm1).robot ≡ record empty_cell.robot { magnet1 = true }
  pub arm2_loaded : (cell_with_plate_at place.Arm2).robot ≡ record empty_cell.robot { magnet2 = true }
  pub crane_loaded : (cell_with_plate_at place.Crane).crane ≡ record empty_cell.crane { magnet = true }
  pub nothing_collides : NothingCollides empty_cell
  pub by_places_alone : plant_at_start guests_inside ≡ record empty_cell {
    feed = belt_with (Some 900) false;
    deposit = belt_with (Some 1000) false;
  }
