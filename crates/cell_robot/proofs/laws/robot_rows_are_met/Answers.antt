use Rattle.cell_robot.proofs.RobotRows.{robot-rows}
use Rattle.cell_robot.proofs.laws.robot_rows_are_met.Goals as goal

pub returns : goal.returns
returns c = robot-rows
