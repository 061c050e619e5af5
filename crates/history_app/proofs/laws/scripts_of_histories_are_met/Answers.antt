use Rattle.std.proofs.Common.{refl}
use Rattle.std.specs.Fmt.{digits}
use Rattle.history_app.specs.Scripts.{digits_of, event_row, script_of}
use Rattle.history_app.proofs.laws.scripts_of_histories_are_met.Goals as goal

pub returns : goal.returns
unfolding digits digits_of event_row script_of
returns c = record {
  nothing = refl;
  three_events = refl;
  stop = refl;
  digits = refl;
  lines = refl;
  no_field = refl;
  one_field = refl;
  empty_field = refl;
  stop_at_last = refl;
  resume_alone = refl;
  resume_at_first = refl;
  no_stop = refl;
  no_event = refl;
  refused_stop = refl;
  opening = refl;
  rows = refl;
}
