-- Why pairs make no curve, in figures.
use Rattle.std.proofs.Common.{◌≡◌, pos, true, List, [], ◌∷◌, refl, arith}
use Rattle.std.specs.Prelude.{neg_ℤ}
use Rattle.cell_sensors.specs.Names.{Pair, IsRising, is_rising}
use Rattle.cell_sensors.specs.CurveExamples.{FaultExamples}
use Rattle.cell_sensors.proofs.lemmas.CurveTestLemmas.{count_of_pass, rises_at}

pub rises : (pairs : List Pair) → is_rising pairs ≡ true → IsRising pairs
rises pairs h = λ i within. rises_at pairs i h within

pub faults : FaultExamples
faults = record {
  one_pair = λ has. absurd (omega (arith, has.least));
  pair_too_many = λ has. absurd (omega (arith, has.most));
  first_end = (count_of_pass _ refl, λ has. absurd (omega (arith, has.first)));
  last_end = (count_of_pass _ refl, λ has. absurd (omega (arith, has.last)));
  ends_before_others = (count_of_pass _ refl, λ has. absurd (omega (arith, has.first)));
  equal_raws = (count_of_pass _ refl, record { first = refl; last = refl }, λ rising. let step = rising 1 (omega arith) in absurd (omega (arith, step)));
  far = (count_of_pass _ refl, record { first = refl; last = refl }, rises ((0, pos 0) ∷ (1000, pos 255) ∷ (2000, pos 500) ∷ (4000, pos 1000) ∷ []) refl, λ near. let pair = near 1 (omega arith) in pair.near.not_below.le);
  far_below = (count_of_pass _ refl, record { first = refl; last = refl }, rises ((0, pos 0) ∷ (1000, pos 245) ∷ (2000, pos 500) ∷ (4000, pos 1000) ∷ []) refl, λ near. let pair = near 1 (omega arith) in pair.near.not_above.le);
  outside = (count_of_pass _ refl, record { first = refl; last = refl }, rises ((0, pos 0) ∷ (2000, pos 500) ∷ (4000, pos 1001) ∷ []) refl, λ near. let pair = near 2 (omega arith) in pair.last.le);
  below_first = (count_of_pass _ refl, record { first = refl; last = refl }, rises ((0, neg_ℤ (pos 1)) ∷ (2000, pos 500) ∷ (4000, pos 1000) ∷ []) refl, λ near. let pair = near 0 (omega arith) in pair.first.le);
}
