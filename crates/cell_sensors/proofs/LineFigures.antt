-- Lines, windows and calibrated sensors meet their figures.
use Rattle.std.proofs.Common.{ℕ, ◌≤◌, ℤ, pos, refl, arith, ◌≡◌}
use Rattle.std.proofs.lemmas.Int.{ints}
use Rattle.std.specs.Int.Signed.{le_z_yes, lt_z_yes}
use Rattle.cell_sensors.specs.Names.{IsReading}
use Rattle.cell_sensors.specs.LineExamples.{LineExamples, from_7}

exact_at : (raw : ℕ) → 7 ≤ raw → raw ≤ 507 → (v : ℤ) → v ≡ pos raw → IsReading from_7 raw v
exact_at raw from to v refl = record { near = record { not_below = omega (arith, ints); not_above = omega (arith, ints) }; first = omega (arith, ints); last = omega (arith, ints) }

pub lines : LineExamples
lines = record {
  heights = record { width = refl; position = refl; position_below = refl; line = refl; line_below = refl };
  sides = record {
    below = lt_z_yes tt;
    not_below_there = λ k. k.lt;
    above = lt_z_yes tt;
    not_above_there = λ k. k.lt;
    at_most_there = le_z_yes tt;
    not_at_most = λ k. k.le;
    at_least_there = le_z_yes tt;
    not_at_least = λ k. k.le;
    below_outside = lt_z_yes tt;
    above_outside = lt_z_yes tt;
    near_outside = record { not_below = le_z_yes tt; not_above = le_z_yes tt };
    near_by_half = record { not_below = le_z_yes tt; not_above = le_z_yes tt };
    not_near_by_half = λ k. k.not_below.le;
    not_near_below = λ k. k.not_above.le;
  };
  windows = record {
    greatest = record { not_below = le_z_yes tt; not_above = le_z_yes tt };
    least = record { not_below = le_z_yes tt; not_above = le_z_yes tt };
    too_great = λ k. k.not_above.le;
    too_small = λ k. k.not_below.le;
    below_0 = record { not_below = le_z_yes tt; not_above = le_z_yes tt };
    too_great_below_0 = λ k. k.not_above.le;
  };
  tolerances = record {
    within_1 = record { near = record { not_below = le_z_yes tt; not_above = le_z_yes tt }; first = le_z_yes tt; last = le_z_yes tt };
    narrow = λ k. k.near.not_below.le;
    narrow_below = λ k. k.near.not_above.le;
    past_last = record { not_below = le_z_yes tt; not_above = le_z_yes tt };
    too_far = λ k. k.not_below.le;
    before_first = record { not_below = le_z_yes tt; not_above = le_z_yes tt };
    first_reading = record { near = record { not_below = le_z_yes tt; not_above = le_z_yes tt }; first = le_z_yes tt; last = le_z_yes tt };
    no_reading_before_first = λ k. k.first.le;
    last_reading = record { near = record { not_below = le_z_yes tt; not_above = le_z_yes tt }; first = le_z_yes tt; last = le_z_yes tt };
    no_reading_after_last = λ k. k.last.le;
  };
  calibrations = record {
    exact = record { callable = λ raw from to. (from, to); near = λ raw from to v is. exact_at raw from to v (is to from) };
    not_callable_first = λ k. absurd (omega (arith, k.callable 7 (omega arith) (omega arith)));
    not_callable_last = λ k. absurd (omega (arith, k.callable 507 (omega arith) (omega arith)));
    off_at_first = λ k. (k.near 7 (omega arith) (omega arith) (pos 100) (λ from. absurd (omega (arith, from)))).near.not_below.le;
    off_at_last = λ k. (k.near 507 (omega arith) (omega arith) (pos 100) (λ to. absurd (omega (arith, to)))).near.not_above.le;
  };
  scales = record {
    between = record { raws_rise = omega arith; raws_fit = omega arith; ats_rise = lt_z_yes tt; lowest = le_z_yes tt; highest = le_z_yes tt; finest = le_z_yes tt; coarsest = le_z_yes tt };
    below_0 = record { raws_rise = omega arith; raws_fit = omega arith; ats_rise = lt_z_yes tt; lowest = le_z_yes tt; highest = le_z_yes tt; finest = le_z_yes tt; coarsest = le_z_yes tt };
    topmost = record { raws_rise = omega arith; raws_fit = omega arith; ats_rise = lt_z_yes tt; lowest = le_z_yes tt; highest = le_z_yes tt; finest = le_z_yes tt; coarsest = le_z_yes tt };
    raws_fall = λ k. absurd (omega (arith, k.raws_rise));
    positions_fall = λ k. k.ats_rise.lt;
    tolerance_below_0 = λ k. k.finest.le;
    figures = refl;
  };
}
