-- Why the crane's gripper is driven, by the crane's step.
use Rattle.std.specs.Prelude.{Option, Some, None}
use Rattle.cell_rules.specs.Types.{Zone, Z5, Z6, Posture}
use Rattle.cell_belts_crane.specs.Names.{gripper_zone}
use Rattle.cell_belts_crane.specs.declared.crane.CraneStep.{CraneStep}
use Rattle.cell_parts.specs.MotorDemands.{GripperErrand, ForTravel, AtDeposit, AtFeed}

-- by the gripper's zone
abbrev pub errand_in : Zone → GripperErrand
errand_in Z5 = AtDeposit
errand_in Z6 = AtFeed
errand_in _ = ForTravel

abbrev pub errand_by : Option (Zone × Posture) → GripperErrand
errand_by None = ForTravel
errand_by (Some entered) = errand_in entered.0

abbrev pub errand_of : CraneStep → GripperErrand
errand_of step = errand_by (gripper_zone step)
