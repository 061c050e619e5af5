-- What contracts see of the points of the robot's potentiometers.
use Rattle.cell_sensors.specs.declared.potentiometers.RobotPoints.{RobotPoints}

abbrev pub RobotScales : Type 0
RobotScales = RobotPoints
