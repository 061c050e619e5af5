use Rattle.std.proofs.Common.{refl}
use Rattle.plan_c.proofs.laws.given_is_met.Goals as goal

pub returns : goal.returns
returns c = record {
  plan = λ t rows plan. record { bytes_are = refl; rows = rows; plan = plan };
  of_plan = λ bytes t is. (is.bytes_are, is.rows, is.plan);
  no_plan = λ bytes none t is. none t is.rows is.plan is.bytes_are;
  some_plan = λ t rows plan none. none t (record { bytes_are = refl; rows = rows; plan = plan });
  word = λ t s of. record { state = of; word_is = refl };
  of_word = λ t word s is. (is.state, is.word_is);
  no_state = λ t word none s is. none s is.state is.word_is;
  some_state = λ t s of none. none s (record { state = of; word_is = refl });
  no_word = λ law t s plan of. law t s plan of;
}
