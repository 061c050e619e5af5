use Rattle.std.proofs.Common.{take}
use Rattle.std.specs.List.{AllZip}
use Rattle.plan_document.specs.Names.{all_poses}
use Rattle.plan_document.specs.Plants.{IsPlantPoseOf}
use Rattle.plan_document.proofs.plant_tables.plant_poses_of.Given as goal

abbrev pub invariant-loop-i : goal.invariant-loop-i
invariant-loop-i l = AllZip (IsPlantPoseOf l.zones) (all_poses (take l.i l.machines)) l.rows.items
