-- The examples of `plant_starts_are_met`, and the law `plants_start_by_digits`.
use Rattle.std.proofs.Common.{refl}
use Rattle.csv.specs.Records.{field_at}
use Rattle.plan_app.specs.PlantStartExamples.{StartsAreOfDigits, StartsOfThree}
use Rattle.plan_app.proofs.PlantStarting.{digits_counted, is_in_start, opening_count, opening_on, place_is_full}

pub starts_of_three : StartsOfThree
unfolding field_at
starts_of_three = record {
  none = refl;
  one = refl;
  middle = refl;
  last = refl;
  all = refl;
  stamp = refl;
  no_stamp = refl;
  two_stamps = refl;
  no_digits = refl;
  empty = refl;
  few = refl;
  two = refl;
  many = refl;
  digit = refl;
  letter = refl;
  other_word = refl;
  other_word_alone = refl;
  no_field = refl;
  no_record = refl;
  first_record = refl;
}

pub starts_are_of_digits : StartsAreOfDigits
starts_are_of_digits = record {
  count = opening_count;
  each = opening_on;
  digits = digits_counted;
  full = place_is_full;
  whole = is_in_start;
}
