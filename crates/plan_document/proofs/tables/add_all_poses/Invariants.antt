use Rattle.std.proofs.Common.{◌≡◌, take}
use Rattle.std.specs.List.{AllZip}
use Rattle.plan_document.specs.Names.{AreNames, all_poses, pose_names}
use Rattle.plan_document.specs.Saying.{IsPoseOf}
use Rattle.plan_document.proofs.tables.add_all_poses.Given as goal

abbrev pub invariant-loop-i : goal.invariant-loop-i
invariant-loop-i l = record {
  names : l.names ≡ pose_names (take l.i l.machines);
  spelled : AreNames l.names;
  rows : AllZip (IsPoseOf l.zones) (all_poses (take l.i l.machines)) l.rows.items;
}
