-- The examples of requests.
use Rattle.std.proofs.Common.{refl}
use Rattle.csv.specs.Records.{field_at}
use Rattle.plan_text.specs.WordExamples.{NoRequests, RequestsAreRead}

pub read_rows : RequestsAreRead
unfolding field_at
read_rows = record {
  claim = refl;
  give = refl;
  yield = refl;
  take = refl;
  release = refl;
  inquire = refl;
  advance = refl;
  own = refl;
  own_second = refl;
  others = refl;
  by_watch = refl;
  stop = refl;
  resume = refl;
  stop_by_low = refl;
  resume_by_watch = refl;
  give_by_watch = refl;
  stop_alone = refl;
  callers = refl;
}

pub no_request_rows : NoRequests
unfolding field_at
no_request_rows = record {
  no_fields = refl;
  caller_alone = refl;
  fourth = refl;
  place_asks = refl;
  nobody = refl;
  no_name = refl;
  empty_name = refl;
  claim_place = refl;
  give_machine = refl;
  yield_pose = refl;
  take_place = refl;
  release_pose = refl;
  advance_zone = refl;
  advance_alone = refl;
  inquire_machine = refl;
  pose_zone = refl;
  no_verb = refl;
  capital = refl;
  no_word = refl;
  stop_about = refl;
  empty_verb = refl;
  empty_posture = refl;
  other_posture = refl;
}
