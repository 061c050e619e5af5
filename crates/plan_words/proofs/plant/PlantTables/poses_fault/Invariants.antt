use Rattle.std.proofs.Common.{◌≡◌}
use Rattle.plan_types.specs.Below.{first_below}
use Rattle.plan_words.specs.Plant as plant
use Rattle.plan_words.proofs.plant.PlantTables.poses_fault.Given as goal

abbrev pub invariant-loop-pose : goal.invariant-loop-pose
invariant-loop-pose l = l.first ≡ first_below (plant.pose_fault l.self) l.pose
