use Rattle.std.proofs.Common.{◌+◌, length, refl, arith}
use Rattle.std.proofs.lemmas.Bool.{le-ltb, lt-ltb}
use Rattle.plan_controller.proofs.laws.places_go_round.Goals as goal

pub returns : goal.returns
returns _ = λ c. record {
  next_step = λ l. rw (lt-ltb (c.place + 1) (length c.steps) l) refl;
  last_step = λ e. rw (le-ltb (c.place + 1) (length c.steps) (omega (arith, e))) refl;
}
