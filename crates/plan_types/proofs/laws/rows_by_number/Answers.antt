use Rattle.std.proofs.lemmas.List.{get_or_past}
use Rattle.plan_types.specs.Table.{no_zone, no_pose, no_place}
use Rattle.plan_types.proofs.RowReading.{element_after}
use Rattle.plan_types.proofs.laws.rows_by_number.Goals as goal

pub returns : goal.returns
returns c = record {
  zone = λ t rows row. element_after rows t.zones row no_zone;
  pose = λ t rows row. element_after rows t.poses row no_pose;
  place = λ t rows row. element_after rows t.places row no_place;
  zone_past_the_end = λ t z past. get_or_past t.zones z no_zone past;
  pose_past_the_end = λ t p past. get_or_past t.poses p no_pose past;
  place_past_the_end = λ t p past. get_or_past t.places p no_place past;
}
