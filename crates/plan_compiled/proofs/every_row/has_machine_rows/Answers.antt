use Rattle.std.proofs.Common.{refl}
use Rattle.plan_compiled.proofs.every_row.has_machine_rows.Goals as goal

pub returns : goal.returns
returns c = λ e. record {
  zones = c.if-not-has_all_zone_rows.ensures refl;
  poses = c.if-not-has_pose_rows.ensures refl;
  watch = c.has_watch_rows.ensures e;
  places = c.if-not-has_place_rows.ensures refl;
}
