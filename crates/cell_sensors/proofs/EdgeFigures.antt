-- Pairs that make no curve at the ends, the test of a curve, and a curve's pairs by their places, in figures.
use Rattle.std.proofs.Common.{pos, [], ◌∷◌, refl, arith}
use Rattle.cell_sensors.specs.CurveExamples.{quarters, bulging, even, steps, EdgeFaultExamples, NoCurveExamples, TestExamples, PlaceExamples}
use Rattle.cell_sensors.proofs.FaultFigures.{rises}
use Rattle.cell_sensors.proofs.lemmas.CurveTestLemmas.{count_of_pass, curve_of_pass}

pub edges : EdgeFaultExamples
edges = record {
  first_step = (count_of_pass _ refl, record { first = refl; last = refl }, λ rising. let step = rising 0 (omega arith) in absurd (omega (arith, step)));
  last_step = (count_of_pass _ refl, record { first = refl; last = refl }, λ rising. let step = rising 2 (omega arith) in absurd (omega (arith, step)));
  first_far = (count_of_pass _ refl, record { first = refl; last = refl }, rises ((0, pos 5) ∷ (2000, pos 500) ∷ (4000, pos 1000) ∷ []) refl, λ near. let pair = near 0 (omega arith) in pair.near.not_below.le);
  last_far = (count_of_pass _ refl, record { first = refl; last = refl }, rises ((0, pos 0) ∷ (2000, pos 500) ∷ (4000, pos 995) ∷ []) refl, λ near. let pair = near 2 (omega arith) in pair.near.not_above.le);
  ends_as_far_as_allowed = curve_of_pass quarters ((0, pos 4) ∷ (2000, pos 496) ∷ (4000, pos 996) ∷ []) refl;
  on_the_line = curve_of_pass (record quarters { tol = pos 1 }) ((0, pos 0) ∷ (2000, pos 500) ∷ (4000, pos 1000) ∷ []) refl;
  near_is_too_far = (count_of_pass _ refl, record { first = refl; last = refl }, rises ((0, pos 0) ∷ (2000, pos 501) ∷ (4000, pos 1000) ∷ []) refl, λ near. let pair = near 1 (omega arith) in pair.near.not_below.le);
}

pub none : NoCurveExamples
none = record {
  one_pair = λ k. absurd (omega (arith, k.number.least));
  pair_too_many = λ k. absurd (omega (arith, k.number.most));
  ends = λ k. absurd (omega (arith, k.ends.first));
  order = λ k. let step = k.rising 1 (omega arith) in absurd (omega (arith, step));
  far = λ k. let pair = k.near 1 (omega arith) in pair.near.not_below.le;
}

pub tests : TestExamples
tests = record {
  bulging = refl;
  falling = refl;
  one_pair = refl;
  most_pairs = refl;
  pair_too_many = refl;
  first_end = refl;
  last_end = refl;
  last_step = refl;
  first_far = refl;
  last_far = refl;
  before_first = refl;
  after_last = refl;
}

pub places : PlaceExamples
places = record {
  second_pair = refl;
  last_raw = refl;
  no_pair = refl;
  left_of_pair = record { within = omega arith; from = omega arith; to = omega arith };
  right_of_pair = record { within = omega arith; from = omega arith; to = omega arith };
  before_both = λ k. absurd (omega (arith, k.from));
  after_both = λ k. absurd (omega (arith, k.to));
  past_the_pairs = λ k. absurd (omega (arith, k.within));
  falling_line = refl;
  ends = refl;
  first_places = refl;
  kept_with_more_places = record { fits = omega arith; curve = curve_of_pass quarters bulging refl };
  kept_full = record { fits = omega arith; curve = curve_of_pass even (steps 32) refl };
  last_not_kept = λ k. absurd (omega (arith, k.curve.ends.last));
  more_than_fit = λ k. absurd (omega (arith, k.fits));
}
