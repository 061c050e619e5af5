-- A gauge's value is near its line, so a turn is also one of the program that knows only that.
use Rattle.std.proofs.Common.{ℕ, ℤ, Result, Ok, Err}
use Rattle.cell_sensors.specs.Names.{Scale, IsReading, RobotScales}
use Rattle.cell_sensors.specs.declared.sense.RobotSense.{RobotSense}
use Rattle.cell_sensors.specs.declared.sense.SensorFault.{SensorFault}
use Rattle.cell_robot.specs.Names.{RobotGauges, near_lines, Senses}
use Rattle.cell_robot.specs.declared.robot.RobotReading.{RobotReading}
use Rattle.cell_robot.specs.RobotProgram.{ReadsAs}

reads_near : (points : Scale) (gives : ℕ → ℤ → Type 0) (raw : ℕ) (read : ℤ) → ReadsAs points gives raw (Ok read) → ReadsAs points (IsReading points) raw (Ok read)
reads_near points gives raw read k = (k.0, (k.1.0, k.1.0))

pub senses_near : (points : RobotScales) (gives : RobotGauges) (s : RobotSense) (r : Result RobotReading SensorFault) → Senses points gives s r → Senses points (near_lines points) s r
senses_near points gives s (Ok r) k =
    record {
      arm1 = reads_near points.arm1 gives.arm1 s.arm1 r.arm1 k.arm1;
      arm2 = reads_near points.arm2 gives.arm2 s.arm2 r.arm2 k.arm2;
      rotation = reads_near points.rotation gives.rotation s.rotation r.rotation k.rotation;
      retracted = k.retracted;
    }
senses_near points gives s (Err fault) k = k
