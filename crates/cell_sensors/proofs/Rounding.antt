-- Rounding down, in figures.
use Rattle.std.proofs.Common.{rules, ◌+◌, ◌+ℤ◌, pos, ℕ, ℤ, arith, refl}
use Rattle.std.specs.Int.Signed.{le_z, lt_z, le_z_yes, lt_z_yes}
use Rattle.std.specs.Prelude.{T}
use Rattle.cell_sensors.specs.Names.{Scale, IsScale, height_of, line_height, IsLineRoundedDown, IsRawAt}
use Rattle.cell_sensors.specs.Examples.{GivesRaw, LiesAt, three_for_two, below_zero, RoundingExamples, AnswerExamples, LimitExamples}
use Rattle.cell_sensors.proofs.lemmas.LineLemmas.{one_raw_at, one_line_at}

plain : IsScale three_for_two
plain = record { raws_rise = omega arith; raws_fit = omega arith; ats_rise = lt_z_yes tt; lowest = le_z_yes tt; highest = le_z_yes tt; finest = le_z_yes tt; coarsest = le_z_yes tt }

deep : IsScale below_zero
deep = record { raws_rise = omega arith; raws_fit = omega arith; ats_rise = lt_z_yes tt; lowest = le_z_yes tt; highest = le_z_yes tt; finest = le_z_yes tt; coarsest = le_z_yes tt }

gives : (s : Scale) (position : ℤ) (raw : ℕ) → IsScale s → T (le_z (line_height s raw) (height_of s position)) → T (lt_z (height_of s position) (line_height s (raw + 1)))
    → GivesRaw s position raw
gives s position raw k low high = let is : IsRawAt s position raw = record { not_above = le_z_yes low; next_above = lt_z_yes high } in (is, λ other also. one_raw_at s position raw other k is also)

lies : (s : Scale) (raw : ℕ) (position : ℤ) → IsScale s → T (le_z (height_of s position) (line_height s raw)) → T (lt_z (line_height s raw) (height_of s (position +ℤ pos 1)))
    → LiesAt s raw position
lies s raw position k low high = let is : IsLineRoundedDown s raw position = record { not_above = le_z_yes low; next_above = lt_z_yes high } in (is, λ other also. one_line_at s raw position other k is also)

pub roundings : RoundingExamples
roundings = search (rules, gives, lies, plain, deep)

pub answers : AnswerExamples
answers = record {
  highest = record { near = record { not_below = le_z_yes tt; not_above = le_z_yes tt }; first = le_z_yes tt; last = le_z_yes tt };
  lowest = record { near = record { not_below = le_z_yes tt; not_above = le_z_yes tt }; first = le_z_yes tt; last = le_z_yes tt };
  too_high = λ r. r.near.not_below.le;
  too_low = λ r. r.near.not_above.le;
  after_last = λ r. r.last.le;
  before_first = λ r. r.first.le;
  uncallable = λ k. k.callable 0 (omega arith) (omega arith);
  off_line = λ k. (k.near 1500 (omega arith) (omega arith) (pos 0) refl).near.not_above.le;
}

pub limits : LimitExamples
limits = record {
  widest = record { raws_rise = omega arith; raws_fit = omega arith; ats_rise = lt_z_yes tt; lowest = le_z_yes tt; highest = le_z_yes tt; finest = le_z_yes tt; coarsest = le_z_yes tt };
  narrowest = record { raws_rise = omega arith; raws_fit = omega arith; ats_rise = lt_z_yes tt; lowest = le_z_yes tt; highest = le_z_yes tt; finest = le_z_yes tt; coarsest = le_z_yes tt };
  one_raw_value = λ k. absurd (omega (arith, k.raws_rise));
  raw_value_too_great = λ k. absurd (omega (arith, k.raws_fit));
  one_position = λ k. absurd (omega (arith, k.ats_rise));
  too_low = λ k. k.lowest.le;
  too_high = λ k. k.highest.le;
  no_tolerance = λ k. k.finest.le;
  too_coarse = λ k. k.coarsest.le;
}
