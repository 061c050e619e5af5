use Rattle.std.proofs.Common.{None}
use Rattle.plan_types.specs.Table.{pose_row, no_pose}
use Rattle.plan_types.proofs.RowReading.{element_after, moving_zone, moves_by_zone}
use Rattle.plan_types.proofs.laws.poses_by_zone.Goals as goal

pub returns : goal.returns
returns c = record {
  moves = λ t p. (moving_zone (pose_row t p).gives, λ found. moves_by_zone (pose_row t p).gives found.0 found.1);
  gives = λ t rows row before after given is.
      rw (element_after rows t.poses row no_pose, is) (element_after before after given None);
}
