-- The examples of `parts_are_met`.
use Rattle.std.proofs.Common.{refl}
use Rattle.std.specs.Fmt.{digits}
use Rattle.plan_picture.specs.PictureExamples.{ElementsAreMet, PartsAreMet, WordsAreMet}

pub elements-met : ElementsAreMet
unfolding digits
elements-met = record {
  entities = refl;
  others = refl;
  unprintable = refl;
  upright = refl;
  level = refl;
  circle = refl;
  short = refl;
  long = refl;
  slanted = refl;
}

pub parts-met : PartsAreMet
unfolding digits
parts-met = record {
  machine = refl;
  place = refl;
  both = refl;
  source = refl;
  sink = refl;
  motor = refl;
  title = refl;
  parties = refl;
  ways = refl;
  ends = refl;
  hazard = refl;
  head = refl;
}

pub words-met : WordsAreMet
unfolding digits
words-met = record {
  place = refl;
  title = refl;
  word = refl;
  ways = refl;
  line = refl;
  hazard = refl;
  no_word = refl;
  no_line = refl;
}
