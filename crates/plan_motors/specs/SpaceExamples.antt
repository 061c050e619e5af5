-- Motors of a press with two robots, in whose one space each robot has a zone of its own.
use Rattle.std.specs.Prelude.{◌≡◌, [], ◌∷◌, replicate, Some, None}
use Rattle.plan_types.specs.declared.posture.Posture.TheVariants.{Closed, Moving, OpenIn, OpenOut}
use Rattle.plan_types.specs.SpaceExamples.{robots_table, five_shuttles}
use Rattle.plan_rules.specs.State.{free_zone}
use Rattle.plan_rules.specs.SpaceExamples.{claimed_state, given_state}
use Rattle.plan_word.specs.SpaceExamples.{given_on}
use Rattle.plan_motors.specs.declared.motor.Motor.{Motor}
use Rattle.plan_motors.specs.declared.exclusion.Cause.TheVariants.{Zone}
use Rattle.plan_motors.specs.declared.exclusion.Exclusion.TheVariants.{Excluded}
use Rattle.plan_motors.specs.declared.fault.MotorFault.TheVariants.{ForeignZone, NeverPermitted}
use Rattle.plan_motors.specs.Motor.{no_need, Permits}
use Rattle.plan_motors.specs.Decided.{IsShown, NeverBoth}
use Rattle.plan_motors.specs.Exclusion.{cause, zone_for, state_for}
use Rattle.plan_motors.specs.Faults.{first_fault}
use Rattle.plan_motors.specs.Mask.{mask_of, pattern_of}
use Rattle.plan_motors.specs.Examples.{owned, held, hosted, motor, at_zone, ram}

-- the press, 1, hosts both zones; the loader, 0, is the guest at the first, the unloader, 2, at the second
abbrev pub loading : Motor
loading = motor 0 (held None) no_need None None

abbrev pub unloading : Motor
unloading = motor 2 no_need (held None) None None

-- a pump that runs while the loader's side is closed, whoever holds the space; and a blower for which one side would
-- have to move, and the other one be closed
abbrev pub pump : Motor
pump = motor 1 (hosted Closed) no_need None None

abbrev pub blower : Motor
blower = motor 1 (hosted Moving) (hosted Closed) None None

pub record SpaceCauses : Type 0 where
  -- a space has one owner, so both arms are never in it; nor one of them while it moves
  pub arms : cause robots_table loading unloading ≡ Some (Zone 1)
  pub arms_in_turn : cause robots_table unloading loading ≡ Some (Zone 1)
  pub shown : IsShown robots_table loading unloading (Excluded (Zone 1))
  pub never : NeverBoth robots_table loading unloading
  pub arm_and_ram : cause robots_table unloading ram ≡ Some (Zone 1)
  -- a space moves as a whole
  pub moves_alone : cause robots_table blower blower ≡ Some (Zone 1)
  pub ram_and_pump : cause robots_table ram pump ≡ Some (Zone 0)
  -- one side is closed, while the other robot is at work
  pub arm_and_pump : cause robots_table unloading pump ≡ None
  pub loader_and_pump : cause robots_table loading pump ≡ Some (Zone 0)
  pub ram_alone : (state_for robots_table ram ram).zones
      ≡ owned (Some 1) Moving ∷ owned (Some 1) Moving ∷ replicate 8 free_zone
  pub both_sides : (state_for robots_table unloading pump).zones
      ≡ owned (Some 2) Closed ∷ owned (Some 2) OpenIn ∷ replicate 8 free_zone
  pub loader_alone : zone_for robots_table loading loading 1 ≡ owned (Some 0) Closed

-- the space's owner stands in bits 0 and 1; the first zone's posture in bits 3 and 4, the second one's in 6 and 7
pub record SpaceMasks : Type 0 where
  pub loading_mask : mask_of robots_table loading ≡ 0x03
  pub loading_pattern : pattern_of robots_table loading ≡ 0x02
  pub unloading_mask : mask_of robots_table unloading ≡ 0x03
  pub unloading_pattern : pattern_of robots_table unloading ≡ 0x03
  pub offering_mask : mask_of robots_table (motor 1 no_need (held (Some OpenOut)) None None) ≡ 0xC3
  pub offering_pattern : pattern_of robots_table (motor 1 no_need (held (Some OpenOut)) None None) ≡ 0xC1
  pub pump_mask : mask_of robots_table pump ≡ 0x18
  pub pump_pattern : pattern_of robots_table pump ≡ 0
  -- a machine that doesn't enter the space: a pattern outside of the mask
  pub stranger_mask : mask_of robots_table (motor 3 no_need (held None) None None) ≡ 0
  pub stranger_pattern : pattern_of robots_table (motor 3 no_need (held None) None None) ≡ 0x03
  -- of four guests three bits tell the owner: the last one is 5
  pub shuttle_mask : mask_of five_shuttles (at_zone 4 3 (held None)) ≡ 0x07
  pub shuttle_pattern : pattern_of five_shuttles (at_zone 4 3 (held None)) ≡ 0x05
  -- a side of the aisle never moves
  pub never_mask : mask_of five_shuttles (at_zone 0 3 (hosted Moving)) ≡ 0x40
  pub never_pattern : pattern_of five_shuttles (at_zone 0 3 (hosted Moving)) ≡ 0x47

-- the press holds its space; then the loader has given it a plate; then the unloader has the space, and takes one
pub record SpacePermits : Type 0 where
  pub waits : ¬ Permits robots_table claimed_state unloading
  pub offers_not : ¬ Permits robots_table given_state unloading
  pub takes : Permits robots_table given_on unloading
  pub loader_waits : ¬ Permits robots_table given_on loading

pub record SpaceFaults : Type 0 where
  pub none : first_fault robots_table (loading ∷ unloading ∷ pump ∷ []) [] ≡ None
  -- a robot needs the other one's zone; a blower that never runs
  pub foreign : first_fault robots_table (motor 2 (held None) no_need None None ∷ []) [] ≡ Some (ForeignZone 0 0)
  pub never : first_fault robots_table (loading ∷ blower ∷ []) [] ≡ Some (NeverPermitted 1)
