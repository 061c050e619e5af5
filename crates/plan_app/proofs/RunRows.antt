-- The examples of `run_texts_are_told` and `run_notes_are_told`.
use Rattle.std.proofs.Common.{refl}
use Rattle.std.specs.Fmt.{digits}
use Rattle.plan_app.specs.RunExamples.{RunTextsAreTold}
use Rattle.plan_app.specs.RunPageExamples.{RunNotes}

pub run_rows : RunTextsAreTold
unfolding digits
run_rows = record {
  whole = refl;
  nothing = refl;
  one = refl;
  one_call = refl;
  on_word = refl;
  of_lift = refl;
  stopped = refl;
  fine = refl;
  own = refl;
  all_own = refl;
  foreign = refl;
  stranger = refl;
  of_watch = refl;
}

pub run_notes : RunNotes
unfolding digits
run_notes = record { none = refl; last = refl; two = refl }
