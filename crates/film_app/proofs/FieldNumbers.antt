-- Fields and lines by their numbers.
use Rattle.std.proofs.Common.{refl, le-ltb, lt-ltb}
use Rattle.film_app.specs.FieldsByNumber.{FieldsByNumber}
use Rattle.film_app.specs.Pages.{max_turns, page_text}

pub by_number : FieldsByNumber
unfolding max_turns page_text
by_number = record {
  drives_up = λ n. refl;
  drives_down = λ n. refl;
  below_nought = λ n. refl;
  plate = λ n. refl;
  plate_below_nought = λ n. refl;
  belt = λ b. refl;
  table = λ t. refl;
  robot = λ r. refl;
  crane = λ c. refl;
  word = λ s. refl;
  settled = λ answer stamp. refl;
  busy = λ lost stamp. refl;
  same_line = λ letter old new same. rw same refl;
  changed_line = λ letter old new changed. rw changed refl;
  uncut = λ turns few. rw (le-ltb 100000 turns few) refl;
  cut = λ turns more. rw (lt-ltb 100000 turns more) refl;
  page = λ lines turns. refl;
}
