-- The examples of fields.
use Rattle.std.proofs.Common.{refl}
use Rattle.std.specs.Fmt.{digits}
use Rattle.cell_word.specs.Layout.{packed}
use Rattle.film_app.specs.FieldExamples.{FieldsAreTold}
use Rattle.film_app.specs.Lines.{machine_text}
use Rattle.film_app.specs.Pages.{max_turns, page_text}

pub fields-told : FieldsAreTold
unfolding digits packed max_turns machine_text page_text
fields-told = record {
  press = refl;
  no_start = refl;
  start = refl;
  steps = refl;
  word = refl;
  motors = refl;
  axes = refl;
  plates = refl;
  second_magnet = refl;
  no_magnet = refl;
  replies = refl;
  nothing_asked = refl;
  same = refl;
  new = refl;
  not_new = refl;
  silence = refl;
  said = refl;
  so_far = refl;
  whole = refl;
  long_cut = refl;
  plain = refl;
  signs = refl;
  last_is_not = refl;
  first_is_not = refl;
}
