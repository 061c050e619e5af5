use Rattle.cell_robot.proofs.robot.RobotStep.with_number.Goals as goal

pub returns : goal.returns
returns c = c.pick.ensures
