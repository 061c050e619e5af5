-- The examples of `standstills_are_told`, `screens_are_meant`, `screens_differ`, `answers_are_meant` and `served_is_meant`.
use Rattle.std.proofs.Common.{◌<◌, length, ap, refl, arith}
use Rattle.std.specs.Fmt.{digits}
use Rattle.plan_app.specs.ScreenExamples.{AnswersAreMeant, KindsOfScreens, ScreensAreMeant, ServedIsMeant, StandstillLines}

pub standstill-lines : StandstillLines
unfolding digits
standstill-lines = record {
  at_once = refl;
  one_turn = refl;
  turns = refl;
  free = refl;
  large = refl;
  at_the_start = refl;
  in_any_order = refl;
  waits = refl;
  outlook = refl;
  whole = refl;
}

pub screens-meant : ScreensAreMeant
screens-meant = record {
  none = λ most n ps s text is turns. is.free turns;
  runs = λ most n ps s text is. is.runs;
  told = λ most n ps s text is. (is.situations, is.answers, is.plates, is.come, is.are, is.told);
  none_starves = λ most n ps s text is. (is.answers, is.plates, is.are, is.starving);
  some_starves = λ most n ps s text is. (is.situations, is.answers, is.plates, is.come, is.are, is.starving, is.told);
  starving_runs = λ most n ps s text is. is.runs;
  starving_none = λ most n ps s text is turns. is.free turns;
  stands = λ most n ps s text is. (is.turns, is.lead, is.shortest, is.told);
  unfinished = λ most n ps s turns is. (is.more, is.none);
  in_any_order = λ most n ps s is. (is.more, is.none);
}

pub kinds-of-screens : KindsOfScreens
unfolding digits
kinds-of-screens = record {
  free = λ text shows. shows.1;
  starving = λ text shows. shows.1;
  free_though_starving = λ text shows. let e = shows.0 in cc;
  starving_though_free = λ text shows. let e = shows.0 in cc;
  standstill = λ starve text shows. absurd shows;
  unfinished = λ starve extent shows. absurd shows;
  waits = λ text shows. shows;
  free_at_a_standstill = λ text shows. absurd shows;
  starving_at_a_standstill = λ text shows. absurd shows;
}

pub answers-meant : AnswersAreMeant
answers-meant = record {
  count = λ n ps s answers plates are. are.count;
  each = λ n ps s answers plates are m answer at. are.each m answer at;
  move = λ n ps s answers bound are. are.moving;
  rest = λ n ps s answers order are. are.resting;
  moves = λ n ps s bound may. may;
  rests = λ n ps s order may. may;
  no_turns = λ n ps s order empty may.
      let some : 0 < length order.cycle.items = may.some in
      let none : 0 < 0 = rw (← ap (λ l. length l) empty.cycle) some in
      absurd (omega arith);
}

pub served-meant : ServedIsMeant
served-meant = record {
  report = λ word most bytes old new (plan, is, (text, tells, wrote)). (plan, is, text, tells, wrote);
  header = λ word bytes old new said. said;
  python = λ word bytes old new said. said;
  picture = λ word bytes old new said. said;
  answers = λ word bytes old new (plan, is, (clean, wrote)). (plan, is, clean, wrote);
  free = λ word bytes old new (plan, is, (opening, at, (text, tells, wrote))). (plan, is, opening, at, text, tells, wrote);
  explored = λ word bytes old new (plan, is, (opening, at, (text, tells, wrote))). (plan, is, opening, at, text, tells, wrote);
  words = λ bytes old new (plant, is, (text, tells, wrote)). (plant, is, text, tells, wrote);
  header_words = λ bytes old new said. said;
  draw_words = λ bytes old new said. said;
  run_words = λ turns bytes old new (plant, is, (openings, begun, (text, tells, wrote))). (plant, is, openings, begun, text, tells, wrote);
  of_document = λ document plan is. is;
  of_word = λ number document plan is. (is.plant, is.says, is.there);
  silent = λ n ps s (text, tells, all). let e = tells.told in absurd (cc);
  other = λ n ps s (text, tells, all). let e = tells.told in absurd (cc);
  unknown = λ n ps s (text, tells, all). absurd all;
}
