-- Raw values and positions rounded down, in figures, on scales with no whole number of raw values for a position; and
-- what a calibrated sensor may answer there. The limits of scales.
use Rattle.std.specs.Prelude.{◌≡◌, ℕ, ℤ, pos, neg_ℤ, ⊤}
use Rattle.cell_sensors.specs.Scale.{Scale, IsScale, scale_by}
use Rattle.cell_sensors.specs.Line.{IsReading, KeepsCalibration, IsLineRoundedDown, IsRawAt}

-- a scale by its two raw values and the positions there
abbrev pub scale_of : ℕ → ℕ → ℤ → ℤ → Scale
scale_of raw_lo raw_hi at_lo at_hi =
    record { raw_lo = raw_lo; raw_hi = raw_hi; at_lo = at_lo; at_hi = at_hi; tol = pos 5 }

-- an ideal sensor gives this raw value at a position and no other
abbrev pub GivesRaw : Scale → ℤ → ℕ → Type 0
GivesRaw s position raw = IsRawAt s position raw × ((other : ℕ) → IsRawAt s position other → other ≡ raw)

-- the line at a raw value, rounded down, is this position and no other
abbrev pub LiesAt : Scale → ℕ → ℤ → Type 0
LiesAt s raw position =
    IsLineRoundedDown s raw position × ((other : ℤ) → IsLineRoundedDown s raw other → other ≡ position)

-- three raw values for two positions
abbrev pub three_for_two : Scale
three_for_two = scale_of 0 1500 (pos 0) (pos 1000)

-- 503 raw values for 500 positions; most positions are below 0
abbrev pub below_zero : Scale
below_zero = scale_of 7 510 (neg_ℤ (pos 300)) (pos 200)

pub record RoundingExamples : Type 0 where
  pub raw_of_0 : GivesRaw three_for_two (pos 0) 0
  pub raw_of_1 : GivesRaw three_for_two (pos 1) 1
  pub raw_of_2 : GivesRaw three_for_two (pos 2) 3
  pub raw_of_501 : GivesRaw three_for_two (pos 501) 751
  pub raw_of_999 : GivesRaw three_for_two (pos 999) 1498
  pub raw_of_1000 : GivesRaw three_for_two (pos 1000) 1500
  pub raw_of_minus_299 : GivesRaw below_zero (neg_ℤ (pos 299)) 8
  pub raw_of_minus_1 : GivesRaw below_zero (neg_ℤ (pos 1)) 307
  pub raw_of_199 : GivesRaw below_zero (pos 199) 508
  pub line_at_1 : LiesAt three_for_two 1 (pos 0)
  pub line_at_2 : LiesAt three_for_two 2 (pos 1)
  pub line_at_3 : LiesAt three_for_two 3 (pos 2)
  pub line_at_1499 : LiesAt three_for_two 1499 (pos 999)
  pub line_at_8 : LiesAt below_zero 8 (neg_ℤ (pos 300))
  pub line_at_307 : LiesAt below_zero 307 (neg_ℤ (pos 2))
  pub line_at_509 : LiesAt below_zero 509 (pos 199)

-- within the tolerance of the line, which is at 500 and at both ends, and from the first position to the last
pub record AnswerExamples : Type 0 where
  pub highest : IsReading three_for_two 750 (pos 505)
  pub lowest : IsReading three_for_two 750 (pos 495)
  pub too_high : ¬ IsReading three_for_two 750 (pos 506)
  pub too_low : ¬ IsReading three_for_two 750 (pos 494)
  pub after_last : ¬ IsReading three_for_two 1500 (pos 1001)
  pub before_first : ¬ IsReading three_for_two 0 (neg_ℤ (pos 1))
  pub uncallable : ¬ KeepsCalibration (λ raw. ⊥) (λ raw v. v ≡ pos 0) (scale_of 0 1 (pos 0) (pos 1))
  pub off_line : ¬ KeepsCalibration (λ raw. ⊤) (λ raw v. v ≡ pos 0) three_for_two

-- the limits of scales: the widest, the narrowest, and scales with one figure outside
pub record LimitExamples : Type 0 where
  pub widest : IsScale (scale_by 0 65535 (neg_ℤ (pos 100000)) (pos 100000) (pos 10))
  pub narrowest : IsScale (scale_by 0 1 (pos 0) (pos 1) (pos 1))
  pub one_raw_value : ¬ IsScale (scale_by 1 1 (pos 0) (pos 1) (pos 1))
  pub raw_value_too_great : ¬ IsScale (scale_by 0 65536 (pos 0) (pos 1) (pos 1))
  pub one_position : ¬ IsScale (scale_by 0 1 (pos 1) (pos 1) (pos 1))
  pub too_low : ¬ IsScale (scale_by 0 1 (neg_ℤ (pos 100001)) (pos 1) (pos 1))
  pub too_high : ¬ IsScale (scale_by 0 1 (pos 0) (pos 100001) (pos 1))
  pub no_tolerance : ¬ IsScale (scale_by 0 1 (pos 0) (pos 1) (pos 0))
  pub too_coarse : ¬ IsScale (scale_by 0 1 (pos 0) (pos 1) (pos 11))
