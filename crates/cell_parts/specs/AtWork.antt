-- Two states in which all demands are met while much is driven at once, and two in which machines don't keep apart.
use Rattle.std.specs.Prelude.{◌≡◌, true, false, Some, None, IsTrue}
use Rattle.cell_rules.specs.Types.{Machine, Feed, Table, Robot, Deposit, Crane, Press, Zone, Z3, host_of}
use Rattle.cell_rules.specs.Types.{Closed, Moving, OpenIn, OpenOut}
use Rattle.cell_types.specs.declared.place.Place.TheVariants as place
use Rattle.cell_devices.specs.declared.motor.Motor.TheVariants.{Plus, Minus}
use Rattle.cell_rules.specs.Names.{empty, insert_place, is_open, owns, posture_at, zone_map, ModelState, model_state}
use Rattle.cell_parts.specs.declared.plant.PlantState.{PlantState}
use Rattle.cell_parts.specs.MotorDemands.{DrivesIn, GripperErrand, ForTravel, AtDeposit}
use Rattle.cell_parts.specs.Laws.{AllDemandsMet, KeepApart}
use Rattle.cell_parts.specs.Examples.{all_free, held_by, zone_of, at, driven_at, robot_at, table_at, crane_at}
use Rattle.cell_parts.specs.Examples.{belt_with, with_press, with_robot}

-- each zone moves, held by its host
abbrev pub all_moving : ModelState
all_moving =
    model_state
    (zone_map
    (zone_of Table Moving)
    (zone_of Table Moving)
    (zone_of Press Moving)
    (zone_of Deposit Moving)
    (zone_of Deposit Moving)
    (zone_of Feed Moving))
    empty
    0
    false

-- both belts run, table and press move, the robot rotates, and the crane travels and drives its gripper to its
-- travelling height
abbrev pub all_driven : PlantState
all_driven = record {
  feed = belt_with None true;
  table = table_at (driven_at 300 Plus) (driven_at 250 Minus);
  robot = robot_at (at 0) (at 0) (driven_at 1000 Plus);
  press = driven_at 300 Minus;
  deposit = belt_with None true;
  crane = crane_at (driven_at 1000 Plus) (driven_at 900 Plus);
}

-- z1 is open for feed's plate, z3 for the second arm and z5 for the crane, and each of these guests holds its zone
abbrev pub guests_inside : ModelState
guests_inside =
    model_state (zone_map (zone_of Feed OpenIn) (zone_of Table Closed) (zone_of Robot OpenOut)
    (zone_of Deposit Closed) (zone_of Crane OpenOut) (zone_of Feed Moving))
    (insert_place (insert_place empty place.FeedEnd) place.DepEnd) 0 false

-- the feed belt runs with a plate at its end, the second arm goes into the press, and the gripper goes down to the
-- deposit belt
abbrev pub guests_driven : PlantState
guests_driven = record {
  feed = belt_with (Some 950) true;
  table = table_at (at 0) (at 0);
  robot = robot_at (at 0) (driven_at 300 Plus) (at 600);
  press = at 0;
  deposit = belt_with (Some 1000) false;
  crane = crane_at (at 0) (driven_at 300 Minus);
}

-- machines that don't keep apart: the press works while its zone is open, and the first arm over the table without the
-- zone
pub record ApartExamples : Type 0 where
  pub host_works : ¬ KeepApart ForTravel (held_by Press Z3 OpenIn) (with_press (driven_at 300 Minus))
  pub guest_works : ¬ KeepApart ForTravel all_free (with_robot (driven_at 300 Plus) (at 0) (at 300))

-- What machines that keep apart never do, in any state: a host drives in its open zone, a machine drives in a zone that
-- it doesn't hold, or two machines drive in one.
pub record ApartMeans (errand : GripperErrand) (s : ModelState) (p : PlantState) : Type 0 where
  pub open_for_guests : KeepApart errand s p → (z : Zone) → IsTrue (is_open (posture_at s z))
      → ¬ DrivesIn errand p (host_of z) z
  pub not_unheld : KeepApart errand s p → (m : Machine) (z : Zone) → owns s m z ≡ false → ¬ DrivesIn errand p m z
  pub no_two : KeepApart errand s p → (m n : Machine) (z : Zone) → DrivesIn errand p m z → DrivesIn errand p n z → m ≡ n

pub record DemandsCanBeMet : Type 0 where
  pub all_move : AllDemandsMet ForTravel all_moving all_driven
  pub guests_move : AllDemandsMet AtDeposit guests_inside guests_driven
  pub apart : ApartExamples
  -- guests in free zones: the first arm over the table; three guests at once
  pub guest_apart : ¬ KeepApart ForTravel all_free (with_robot (driven_at 300 Plus) (at 0) (at 300))
  pub guests_apart : ¬ KeepApart AtDeposit all_free guests_driven
  pub apart_means : (errand : GripperErrand) (s : ModelState) (p : PlantState) → ApartMeans errand s p
