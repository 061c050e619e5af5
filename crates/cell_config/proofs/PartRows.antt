-- The parts of configurations in the examples.
use Rattle.cell_config.proofs.Names.{Pair, rules, ℕ, List, [], ◌∷◌, inl, refl, ap, arith, chars}
use Rattle.cell_config.specs.PartExamples.{KeyExamples, LetterExamples, PartsAreMet, RefusedExamples, SaidExamples, StepExamples, ValueExamples}

letters : LetterExamples
unfolding chars
letters = search rules

keys : KeyExamples
keys = search rules

steps : StepExamples
steps = search rules

abbrev first_raw : List Pair → ℕ
first_raw [] = 0
first_raw (pair ∷ pairs) = pair.0

values : ValueExamples
values = record {
  least = refl;
  most = refl;
  below = refl;
  above = refl;
  negative = refl;
  pair = refl;
  one_alone = refl;
  three = refl;
  a_number = refl;
  wide = refl;
  narrow = refl;
  falling = refl;
  raw = refl;
  raw_to_top = refl;
  raw_above = refl;
  raw_below = refl;
  axis = refl;
  by_default = refl;
  least_position = refl;
  below_least_position = refl;
  greatest_position = refl;
  above_greatest_position = refl;
  measured = refl;
  raw_value_above = refl;
  raw_value_below = refl;
  position_above = refl;
  is_measured_pair = refl;
  is_no_measured_pair = refl;
  is_a_pair = refl;
  is_no_pair = refl;
  values = refl;
  pairs = refl;
  no_pairs = refl;
  second_no_pair = refl;
  no_array = refl;
  first_measured = (refl, refl);
  none_measured = refl;
  all_are_measured = λ k. cc;
  other_pairs = λ k. let e = ap first_raw k.1 in omega (arith, e);
  on_line = refl;
  off_line = refl;
  limit = refl;
}

refused : RefusedExamples
refused = record {
  keys = refl;
  ends = refl;
  no_section = refl;
  arm2_first = refl;
  arm1_first = refl;
  gripper_alone = refl;
  of_no_table = refl;
  of_raw = refl;
  of_tol = refl;
  of_points = refl;
  most_pairs = refl;
  no_table_given = refl;
  a_table_given = refl;
  none_given = refl;
  pairs_of_points = refl;
  no_points = refl;
  of_no_members = refl;
  other_of_no_members = λ e. cc;
  of_members = λ k. k;
}

said : SaidExamples
said = record {
  given = λ bytes config k. k;
  is_given = λ bytes config k. k;
  no_curve = λ config e. rw e refl;
  unread = λ bytes. tt;
  no_memory = λ bytes. tt;
  long = λ bytes k. k;
  no_text = λ bytes k. k;
  unknown = λ bytes k. k;
  missing = λ bytes k. k;
  kind = λ bytes k. k;
  start = λ bytes k. k;
  range = λ bytes k. k;
  letter = λ bytes k. k;
  is_range = λ bytes k. k;
  five_in_order = λ arm1 arm2 rotation turn gripper. refl;
  axis_scales = λ points k. k;
  curves_of = λ first second. refl;
  curves_of_none = λ first e. cc;
  no_scale = tt;
  one_line = (inl refl, tt);
  scale_without_curve = λ k. k;
  curve_without_scale = λ k. k;
  second_without_curve = λ k. k.1;
}

pub parts_are_met : PartsAreMet
parts_are_met = record { letters = letters; keys = keys; steps = steps; values = values; refused = refused; said = said }
