use Rattle.std.proofs.Common.{◌++◌, ℕ, List, take}
use Rattle.std.specs.List.{AllZip}
use Rattle.plan_document.specs.Names.{numbered_poses}
use Rattle.plan_document.specs.Plants.{IsPlantPoseOf}
use Rattle.plan_document.specs.declared.document.PoseRow.{PoseRow}
use Rattle.plan_document.proofs.plant_tables.add_plant_poses.Given as goal

abbrev pub invariant-loop-pose : goal.invariant-loop-pose
invariant-loop-pose l =
    (before : List (ℕ × PoseRow)) → AllZip (IsPlantPoseOf l.zones) before l.initial.rows.items
    → AllZip (IsPlantPoseOf l.zones) (before ++ numbered_poses l.machine (take l.pose l.poses)) l.rows.items
