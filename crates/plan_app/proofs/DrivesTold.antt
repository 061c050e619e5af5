-- The laws of `drives_tell`.
use Rattle.std.proofs.Common.{not, nat_eq, refl, ap}
use Rattle.std.proofs.lemmas.Bool.{eqb-true, false_from_ne_true}
use Rattle.plan_app.specs.Drives.{drives_text, line_if}
use Rattle.plan_app.specs.DriveLaws.{DrivesTell, LacksTell, LinesTell, RunsTell}

lacks-tell : LacksTell
lacks-tell = record {
  no_motor = λ n. refl;
  other = λ n m. refl;
  held = λ n z. refl;
  posture = λ n z needed known. refl;
  unknown = λ n z needed. refl;
  empty = λ n p known. refl;
  maybe_empty = λ n p. refl;
  full = λ n p known. refl;
  maybe_full = λ n p. refl;
}

lines-tell : LinesTell
lines-tell = record {
  line = λ n motors m u. refl;
  undriven = λ n motors drives m u there. ap (line_if n motors m) there;
  driven = λ n motors drives m there. ap (line_if n motors m) there;
  no_program = λ n motors drives m none. ap (line_if n motors m) none;
  all = λ n motors drives. refl;
}

runs-tell : RunsTell
unfolding drives_text
runs-tell = record {
  runs = λ motors until some. ap not (false_from_ne_true (nat_eq motors 0) (λ is. some (eqb-true motors 0 is)));
  waits = λ motors until none. rw none refl;
  awaits = λ z. refl;
  calls = λ call faults. refl;
  program = λ program. refl;
  none = λ n motors programs drives no_run. rw no_run refl;
  permitted = λ n motors programs drives run right. rw (run, right) refl;
  some = λ n motors programs drives run wrong. rw (run, wrong) refl;
}

pub drives-tell : DrivesTell
drives-tell = record { lacks = lacks-tell; lines = lines-tell; runs = runs-tell }
