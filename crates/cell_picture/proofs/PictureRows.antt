-- The examples of pictures.
use Rattle.std.proofs.Common.{refl}
use Rattle.std.specs.Fmt.{digits}
use Rattle.cell_picture.specs.Columns.{column_text, frame_at}
use Rattle.cell_picture.specs.Parts.{last_take, shown_part, takes_plate}
use Rattle.cell_picture.specs.Ramps.{ramp_at}
use Rattle.cell_picture.specs.Spots.{at_gripper, comes_in, goes_out, on_arm1, on_arm2, on_deposit, on_feed, plate_spot, stages}
use Rattle.cell_picture.specs.Values.{value_text}
use Rattle.cell_picture.specs.PictureExamples.{TakeExamples, PartExamples, ColumnExamples, RampExamples, ValueExamples, SpotExamples, PlateExamples, TextMeans, PictureExamples}

take-rows : TakeExamples
unfolding takes_plate
take-rows = record {
  taken = refl;
  start = refl;
  claimed = refl;
  silent = refl;
  refused = refl;
  busy = refl;
  elsewhere = refl;
  by_another = refl;
  by_no_turn = refl;
  given = refl;
}

part-rows : PartExamples
unfolding shown_part last_take takes_plate
part-rows = record {
  none = refl;
  no_take = refl;
  one_take = refl;
  two_takes = refl;
  three_takes = refl;
}

column-rows : ColumnExamples
unfolding digits column_text frame_at value_text
column-rows = record {
  no_frame = refl;
  only_frame = refl;
  first = refl;
  before_half = refl;
  half = refl;
  before_last = refl;
  last = refl;
  column = refl;
  attribute = refl;
  transform = refl;
}

ramp-rows : RampExamples
unfolding ramp_at
ramp-rows = record {
  base = refl;
  whole = refl;
  below = refl;
  above = refl;
  falls_below = refl;
  falls_above = refl;
  before_start = refl;
  far = refl;
  far_below = refl;
  sum_stops = refl;
  less_by = refl;
  less_stops = refl;
}

value-rows : ValueExamples
unfolding digits value_text ramp_at plate_spot stages comes_in goes_out
value-rows = record {
  feed_edge = refl;
  deposit_edge = refl;
  z1 = refl;
  z2 = refl;
  z3 = refl;
  z4 = refl;
  z5 = refl;
  z6 = refl;
  robot = refl;
  watch = refl;
  table_turn = refl;
  table_height = refl;
  press_height = refl;
  robot_turn = refl;
  arm1 = refl;
  arm2 = refl;
  crane_way = refl;
  gripper_height = refl;
  no_plate = refl;
}

spot-rows : SpotExamples
unfolding ramp_at on_feed on_deposit on_arm1 on_arm2 at_gripper comes_in goes_out stages plate_spot
spot-rows = record {
  feed_entry = refl;
  feed_end = refl;
  z1 = refl;
  table = refl;
  z2 = refl;
  z2_put = refl;
  arm1 = refl;
  arm1_put = refl;
  comes_in = refl;
  press_in = refl;
  press_out = refl;
  goes_out = refl;
  goes_out_put = refl;
  arm2 = refl;
  arm2_put = refl;
  z4 = refl;
  deposit_entry = refl;
  deposit_end = refl;
  z5 = refl;
  z5_put = refl;
  crane = refl;
  crane_put = refl;
  z6 = refl;
  not_on_feed = refl;
  before_barrier = refl;
  in_barrier = refl;
  past_feed = refl;
  not_on_deposit = refl;
  past_deposit = refl;
}

plate-rows : PlateExamples
unfolding digits value_text ramp_at on_feed on_deposit on_arm1 on_arm2 at_gripper comes_in goes_out stages plate_spot
plate-rows = record {
  count = refl;
  none = refl;
  counted_at_start = refl;
  none_at_start = refl;
  first = refl;
  second = refl;
  no_third = refl;
  shift = refl;
  angle = refl;
  reach = refl;
  forged = refl;
  blank = refl;
}

text-means : TextMeans
unfolding Rattle.cell_picture.specs.Pictures.plates_text
text-means = record {
  whole = λ part count text shows. (shows.machines, shows.plate, shows.columns, shows.plate_columns, shows.whole);
  plates = λ part plate. refl;
}

pub picture-examples : PictureExamples
picture-examples = record {
  takes = take-rows;
  parts = part-rows;
  columns = column-rows;
  ramps = ramp-rows;
  values = value-rows;
  spots = spot-rows;
  plates = plate-rows;
  text = text-means;
}
