use Rattle.plan_motors.proofs.PoseRows.{gates_are_apart, poses_lead_on, poses_are_taken, postures_are_of}
use Rattle.plan_motors.proofs.examples.poses_are_right.Goals as goal

pub returns-clause-gates : goal.returns-clause-gates
returns-clause-gates c = gates_are_apart c.lawful_histories.ensures

pub returns-clause-lead : goal.returns-clause-lead
returns-clause-lead c = poses_lead_on

pub returns-clause-poses : goal.returns-clause-poses
returns-clause-poses c = poses_are_taken

pub returns-clause-postures : goal.returns-clause-postures
returns-clause-postures c = postures_are_of
