-- Each step is found by its number.
use Rattle.std.proofs.Common.{◌≡◌, Some, refl, slice_get}
use Rattle.cell_robot.specs.declared.robot.RobotStep.{RobotStep}
use Rattle.cell_robot.specs.declared.robot.RobotStep.TheVariants.{TurnToTable}
use Rattle.cell_robot.specs.RobotKeeps.{number_at, steps}

pub robot_found : (s : RobotStep) → slice_get steps (number_at s) ≡ Some s
robot_found TurnToTable = refl
robot_found _ = refl
