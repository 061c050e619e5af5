-- The calibrations of the robot's program: of its two arms and of its rotation.
use Rattle.cell_sensors.specs.declared.calibration.Calibration.{Calibration}
use Rattle.cell_sensors.specs.declared.gauge.Gauge.{Ghosts}
use Rattle.cell_robot.specs.declared.robot.RobotProgram.{RobotProgram}

module _ {F1 F2 F3 : Type 0} {g1 : Ghosts F1} {g2 : Ghosts F2} {g3 : Ghosts F3} where
  abbrev pub arm1_in : RobotProgram F1 F2 F3 g1 g2 g3 → Calibration F1 g1
  arm1_in program = program.arm1

  abbrev pub arm2_in : RobotProgram F1 F2 F3 g1 g2 g3 → Calibration F2 g2
  arm2_in program = program.arm2

  abbrev pub rotation_in : RobotProgram F1 F2 F3 g1 g2 g3 → Calibration F3 g3
  rotation_in program = program.rotation
