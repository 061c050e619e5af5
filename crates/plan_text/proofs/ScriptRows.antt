-- The examples of scripts.
use Rattle.std.proofs.Common.{refl}
use Rattle.std.specs.Fmt.{digits}
use Rattle.csv.specs.Machine.{next_record}
use Rattle.csv.specs.Reading.{records_from, strip_bom}
use Rattle.csv.specs.Records.{field_at}
use Rattle.plan_text.specs.Script.{answers_of}
use Rattle.plan_text.specs.ScriptExamples.{MarksAreLeftOut, ReasonsAreTold, ScriptsAreAnswered, ScriptsAreCut, StartRecords}

pub start_rows : StartRecords
unfolding field_at
start_rows = record {
  stamped = refl;
  not_stamped = refl;
  first_and_last = refl;
  last_stamp = refl;
  no_place = refl;
  all = refl;
  flag_past_one = refl;
  start_alone = refl;
  too_few = refl;
  too_many = refl;
  no_digit = refl;
  empty_stamp = refl;
  no_stamp = refl;
  past_last = refl;
  fourth = refl;
  empty = refl;
  other_word = refl;
  capital = refl;
  no_records = refl;
  of_record_0 = refl;
}

pub reason_rows : ReasonsAreTold
unfolding field_at
reason_rows = record {
  long = refl;
  caller = refl;
  verb = refl;
  word = refl;
  name = refl;
  pose_name = refl;
  verb_of_name = refl;
  zone = refl;
  zones = refl;
  names = refl;
  verbs = refl;
  places = refl;
  no_caller = refl;
  empty_verb = refl;
  empty_word = refl;
  empty_name = refl;
  call_too_long = refl;
  advance = refl;
  pose = refl;
}

pub script_rows : ScriptsAreAnswered
unfolding digits field_at answers_of
script_rows = record {
  other = refl;
  bad_first_row = refl;
  bad_twelfth_row = refl;
  none_left = refl;
  clean = refl;
  bad_row = refl;
  start_alone = refl;
  bad_start = refl;
  no_start = refl;
  no_records = refl;
  last = refl;
}

pub cut_rows : ScriptsAreCut
unfolding digits field_at answers_of next_record records_from strip_bom
cut_rows = record {
  whole = refl;
  start = refl;
  empty = refl;
  marked = refl;
  marked_start = refl;
  mark_alone = refl;
}

pub mark_rows : MarksAreLeftOut
unfolding strip_bom
mark_rows = record { answered = λ script. refl; started = λ script. refl }
