use Rattle.std.proofs.Common.{◌≡◌, refl}
use Rattle.plan_word.specs.Packed.{packed}
use Rattle.plan_rules.specs.Examples.{press_start}
use Rattle.plan_motors.specs.Examples.{ram}
use Rattle.plan_motors.specs.RunExamples.{moves, others_ask}
use Rattle.plan_interlock.proofs.laws.motor_examples_are_right.Goals as goal

pub returns : goal.returns
unfolding packed
returns c = record {
  second_bit = refl;
  no_first_bit = λ k. let e : 0 ≡ 1 = k in cc;
  no_third_bit = λ k. let e : 0 ≡ 1 = k in cc;
  last_bit = refl;
  while_it_moves = refl;
  while_it_loads = refl;
  lasts = λ last is lawful now. last press_start ram moves _ is lawful (record { begins = (others_ask, refl); own = refl }) now;
}
