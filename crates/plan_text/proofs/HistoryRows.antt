-- The examples of scripts of histories.
use Rattle.std.proofs.Common.{refl}
use Rattle.std.specs.Fmt.{digits}
use Rattle.plan_text.specs.HistoryExamples.{ScriptsOfHistories}

pub history_rows : ScriptsOfHistories
unfolding digits
history_rows = record {
  whole = refl;
  not_stamped = refl;
  nothing = refl;
  lines = refl;
  same_name = refl;
  digits = refl;
  last_place = refl;
  stamps = refl;
  start = refl;
  callers = refl;
  fields = refl;
  answered = refl;
  other_answer = refl;
}
