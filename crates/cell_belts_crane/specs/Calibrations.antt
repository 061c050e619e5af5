-- The calibration of the crane's program: of its gripper's height.
use Rattle.cell_sensors.specs.declared.calibration.Calibration.{Calibration}
use Rattle.cell_sensors.specs.declared.gauge.Gauge.{Ghosts}
use Rattle.cell_belts_crane.specs.declared.crane.CraneProgram.{CraneProgram}

module _ {F : Type 0} {g : Ghosts F} where
  abbrev pub gripper_in : CraneProgram F g → Calibration F g
  gripper_in program = program.gripper
