-- The cell's motors, belts and magnets by its plan, and the collisions between machines as hazards.
use Rattle.std.specs.Prelude.{◌≡◌, ℕ, ◌<◌, Bool, true, false, List, [], ◌∷◌, ◌++◌, replicate, length}
use Rattle.std.specs.Prelude.{Option, Some, None}
use Rattle.plan_types.specs.declared.posture.Posture.{Posture}
use Rattle.plan_types.specs.declared.posture.Posture.TheVariants.{Moving, OpenIn, OpenOut}
use Rattle.plan_cell.specs.CellPlan.{cell_table}
use Rattle.plan_motors.specs.declared.motor.ZoneNeed.{ZoneNeed}
use Rattle.plan_motors.specs.declared.motor.Motor.{Motor}
use Rattle.plan_motors.specs.declared.motor.Hazard.{Hazard}
use Rattle.plan_motors.specs.declared.exclusion.Cause.{Cause}
use Rattle.plan_motors.specs.declared.exclusion.Cause.TheVariants.{Zone}
use Rattle.plan_motors.specs.Motor.{no_need}
use Rattle.plan_motors.specs.Exclusion.{cause}
use Rattle.plan_motors.specs.OfPlan.{motor_at, hazard_at, AreMotorsOf}
use Rattle.plan_motors.specs.Decided.{NeverBoth}

abbrev pub held : Posture → ZoneNeed
held posture = record { holds = true; posture = Some posture }

abbrev pub owned : ZoneNeed
owned = record { holds = true; posture = None }

-- a motor by its machine, what it needs of z1 to z6, and of the end of the feed belt
abbrev pub uses : ℕ → List ZoneNeed → Option Bool → Motor
uses machine needs feed_end = record {
  machine = machine;
  zones = needs ++ replicate 4 no_need;
  places = None ∷ feed_end ∷ replicate 14 None;
}

abbrev pub needs : ZoneNeed → ZoneNeed → ZoneNeed → ZoneNeed → ZoneNeed → ZoneNeed → List ZoneNeed
needs a b c d e f = a ∷ b ∷ c ∷ d ∷ e ∷ f ∷ []

-- machines: 0 feed, 1 table, 2 robot, 3 press, 4 deposit, 5 crane. The thirteen actuators, where one that is used for
-- different ends has a row for each: 0 the press; 1 and 2 the table's height and rotation; 3 the feed belt while its
-- end is empty, and 4 while feed has z1; 5 the deposit belt; 6 arm 1 at the table, 7 in the press; 8 arm 2 in the
-- press, 9 at the deposit belt; 10 the robot's rotation; 11 the gripper at the deposit belt, 12 at the feed belt, 13
-- driven to its height for travel; 14 the crane's travel; 15 to 17 the magnets of arm 1, arm 2 and the crane. An arm is
-- used while it is driven or out, the gripper while it is driven or down
abbrev pub none : ZoneNeed
none = no_need

abbrev pub cell_motors : List Motor
cell_motors =
    uses 3 (needs none none (held Moving) none none none) None
    ∷ uses 1 (needs (held Moving) (held Moving) none none none none) None
    ∷ uses 1 (needs (held Moving) (held Moving) none none none none) None
    ∷ uses 0 (needs none none none none none (held Moving)) (Some false)
    ∷ uses 0 (needs owned none none none none (held Moving)) None
    ∷ uses 4 (needs none none none (held Moving) (held Moving) none) None
    ∷ uses 2 (needs none (held OpenOut) none none none none) None
    ∷ uses 2 (needs none none (held OpenIn) none none none) None
    ∷ uses 2 (needs none none (held OpenOut) none none none) None
    ∷ uses 2 (needs none none none (held OpenIn) none none) None
    ∷ uses 2 (needs none none none none none none) None
    ∷ uses 5 (needs none none none none (held OpenOut) none) None
    ∷ uses 5 (needs none none none none none (held OpenIn)) None
    ∷ uses 5 (needs none none none none none none) None
    ∷ uses 5 (needs none none none none none none) None
    ∷ uses 2 (needs none none none none none none) None
    ∷ uses 2 (needs none none none none none none) None
    ∷ uses 5 (needs none none none none none none) None
    ∷ []

abbrev pub hazard : ℕ → ℕ → Hazard
hazard a b = record { first = a; second = b }

-- the collisions between two machines: the press with arm 1 and with arm 2; the table's height and rotation with arm 1;
-- the deposit belt with arm 2 and with the gripper; the feed belt, its end empty or not, with the gripper; and the feed
-- belt with a plate at its end with the table's height and rotation
abbrev pub cell_hazards : List Hazard
cell_hazards =
    hazard 0 7 ∷ hazard 0 8 ∷ hazard 1 6 ∷ hazard 2 6 ∷ hazard 5 9 ∷ hazard 5 11 ∷ hazard 3 12 ∷ hazard 4 12
    ∷ hazard 4 1 ∷ hazard 4 2 ∷ []

abbrev pub cause_of : ℕ → ℕ → Option Cause
cause_of a b = cause cell_table (motor_at cell_motors a) (motor_at cell_motors b)

-- the zone, from 0, that keeps each two apart
pub record CausesAreRight : Type 0 where
  pub press_arm1 : cause_of 0 7 ≡ Some (Zone 2)
  pub press_arm2 : cause_of 0 8 ≡ Some (Zone 2)
  pub height_arm1 : cause_of 1 6 ≡ Some (Zone 1)
  pub rotation_arm1 : cause_of 2 6 ≡ Some (Zone 1)
  pub deposit_arm2 : cause_of 5 9 ≡ Some (Zone 3)
  pub deposit_gripper : cause_of 5 11 ≡ Some (Zone 4)
  pub feed_gripper : cause_of 3 12 ≡ Some (Zone 5)
  pub full_feed_gripper : cause_of 4 12 ≡ Some (Zone 5)
  pub full_feed_height : cause_of 4 1 ≡ Some (Zone 0)
  pub full_feed_rotation : cause_of 4 2 ≡ Some (Zone 0)
  -- also the robot's two arms in the press, by its posture
  pub arms_in_press : cause_of 7 8 ≡ Some (Zone 2)
  -- the feed belt may run with an empty end while the table moves, and the robot turn while arm 1 is driven
  pub feed_height : cause_of 3 1 ≡ None
  pub rotation_arm : cause_of 10 7 ≡ None

-- no sound state permits both motors of a hazard
abbrev pub EachIsExcluded : Type 0
EachIsExcluded =
    (k : ℕ) → k < length cell_hazards → NeverBoth cell_table (motor_at cell_motors (hazard_at cell_hazards k).first)
    (motor_at cell_motors (hazard_at cell_hazards k).second)

pub record CellHazards : Type 0 where
  pub fit : AreMotorsOf cell_table cell_motors cell_hazards
  pub excluded : EachIsExcluded
