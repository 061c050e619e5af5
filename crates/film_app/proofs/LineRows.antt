-- The examples of lines.
use Rattle.std.proofs.Common.{refl}
use Rattle.std.specs.Fmt.{digits}
use Rattle.cell_word.specs.Layout.{packed}
use Rattle.film_app.specs.LineExamples.{LineExamples}
use Rattle.film_app.specs.WordExamples.{RequestsAreMet, StepsAreMet}
use Rattle.film_app.specs.Lines.{machine_text}
use Rattle.film_app.specs.Pages.{max_turns, page_text}

pub line-examples : LineExamples
unfolding digits packed max_turns machine_text page_text
line-examples = record {
  none = refl;
  literal = refl;
  waiting = refl;
  one_change = refl;
  busy = refl;
  feed = refl;
  table = refl;
  robot = refl;
  press = refl;
  deposit = refl;
  crane = refl;
  watch = refl;
  stopped = refl;
  escaped = refl;
  uncut = refl;
  cut = refl;
  page = refl;
}

pub steps-met : StepsAreMet
steps-met = record { feed = refl; table = refl; robot = refl; press = refl; deposit = refl; crane = refl }

pub requests-met : RequestsAreMet
requests-met = record {
  no_name = refl;
  nothing = refl;
  loop = refl;
  help = refl;
  help_of_word = refl;
  help_of_other_word = refl;
  version = refl;
  other_word = refl;
  word_more = refl;
}
