use Rattle.std.proofs.Common.{◌≡◌, ◌++◌, ℕ, List, take}
use Rattle.std.specs.List.{AllZip}
use Rattle.plan_document.specs.Names.{AreNames, names_in, numbered_poses}
use Rattle.plan_document.specs.Saying.{IsPoseOf}
use Rattle.plan_document.specs.declared.document.PoseRow.{PoseRow}
use Rattle.plan_document.proofs.tables.add_poses.Given as goal

abbrev pub invariant-loop-pose : goal.invariant-loop-pose
invariant-loop-pose l = record {
  names : l.names ≡ l.initial.names ++ names_in (take l.pose l.poses);
  spelled : AreNames l.initial.names → AreNames l.names;
  rows : (before : List (ℕ × PoseRow)) → AllZip (IsPoseOf l.zones) before l.initial.rows.items
      → AllZip (IsPoseOf l.zones) (before ++ numbered_poses l.machine (take l.pose l.poses)) l.rows.items;
}
