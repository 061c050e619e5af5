use Rattle.std.proofs.Common.{◌≤◌, zero, suc, ℕ, ◌<◌, arith}
use Rattle.std.specs.Prelude.{[], ◌∷◌, slice_index}
use Rattle.plan_workers.proofs.laws.pace_examples_are_right.Goals as goal

all_three : (m : ℕ) → m < 3 → 4 ≤ slice_index (4 ∷ 5 ∷ 4 ∷ []) m
all_three zero low = omega arith
all_three (suc zero) low = omega arith
all_three (suc (suc zero)) low = omega arith
all_three (suc (suc (suc m))) low = absurd (omega (arith, low))

both : (m : ℕ) → m < 2 → 4 ≤ slice_index (4 ∷ 5 ∷ 0 ∷ []) m
both zero low = omega arith
both (suc zero) low = omega arith
both (suc (suc m)) low = absurd (omega (arith, low))

pub returns : goal.returns
returns c = record {
  all = λ m low _. all_three m low;
  of_run = λ m low _. both m low;
  not_the_first = λ k. let turns = k 0 (omega arith) (omega arith) in omega (arith, turns);
  not_the_last = λ k. let turns = k 30 (omega arith) (omega arith) in omega (arith, turns);
}
