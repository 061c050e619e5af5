-- The examples of lines and of tallies.
use Rattle.std.proofs.Common.{refl}
use Rattle.std.specs.Fmt.{digits}
use Rattle.explore_app.specs.Bounds.{bound_words}
use Rattle.explore_app.specs.Liveness.{going_line, machines_line}
use Rattle.explore_app.specs.LineExamples.{ChoicesAreMet, LinesAreMet, TalliesAreMet}
use Rattle.explore_app.specs.Rings.{asked_words, ending_words, going_on_line, name_words, refused_line, waiting_line}
use Rattle.explore_app.specs.Screens as screens
use Rattle.explore_app.specs.Screens.{digits_of, ending_line, free_line, letters_of, plates_line, schedule_key, start_key}
use Rattle.explore_app.specs.Starving.{stem_line, weak_line}
use Rattle.explore_app.specs.Tallies.{found_words, free_words, going_words, refused_words, situations_words, standing_words, starving_words, tally_line, turns_words, unknown_words, within_words}

pub lines-met : LinesAreMet
unfolding digits bound_words going_line machines_line asked_words ending_words going_on_line name_words refused_line waiting_line screens.turns_words digits_of ending_line free_line letters_of plates_line schedule_key start_key stem_line weak_line
lines-met = record {
  plates = refl;
  start = refl;
  schedule = refl;
  free = refl;
  standstill = refl;
  refusal = refl;
  waits_for_owner = refl;
  waits_for_lender = refl;
  waits_for_party = refl;
  waits_for_host = refl;
  waits_for_nobody = refl;
  is_refused = refl;
  goes_on = refl;
  stem = refl;
  weak = refl;
  weak_unknown = refl;
  going = refl;
  going_starves = refl;
  going_unknown = refl;
  machines = refl;
  machines_starve = refl;
  machines_unknown = refl;
}

pub choices-met : ChoicesAreMet
choices-met = record {
  within = refl;
  starve = λ stem cycle. refl;
  unknown = λ reason. refl;
  both_within = refl;
  first_unknown = refl;
  second_unknown = refl;
  both_unknown = refl;
  first_starves = refl;
  second_starves = refl;
  starves_beside_unknown = refl;
  unknown_beside_starves = refl;
  both_starve = refl;
  starving_warns = refl;
  unknown_does_not = refl;
  going_does_not = refl;
  standstill_waits = refl;
  standstill_acts = refl;
  standstill_stops = refl;
  refusal_stops = refl;
  refusal_waits = refl;
  round_waits = refl;
  round_acts = refl;
  round_stops = refl;
  act = refl;
  waits_act = refl;
}

pub tallies-met : TalliesAreMet
unfolding digits bound_words found_words free_words going_words refused_words situations_words standing_words starving_words tally_line turns_words unknown_words within_words
tallies-met = record { no_start = refl; all_go_on = refl; one_may_not = refl; two_may_not = refl; one_is_unknown = refl; one_of_each = refl; one_stands = refl; two_end = refl; counted = refl }
