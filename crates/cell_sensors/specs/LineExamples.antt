-- Lines, windows and calibrated sensors, in figures.
use Rattle.std.specs.Prelude.{◌≡◌, ◌<◌, ◌≤◌, pos, neg_ℤ, ⊤}
use Rattle.cell_sensors.specs.Scale.{Scale, IsScale, scale_by}
use Rattle.cell_sensors.specs.Line.{raw_width, height_of, line_height, IsLineNear, IsLineBelow, IsLineAbove}
use Rattle.cell_sensors.specs.Line.{IsLineAtMost, IsLineAtLeast, IsWithinTolerance, IsReading, KeepsCalibration, IsNear}
use Rattle.cell_sensors.specs.Examples.{three_for_two, below_zero}

-- heights are times the raw width
pub record HeightExamples : Type 0 where
  pub width : raw_width below_zero ≡ pos 503
  pub position : height_of below_zero (pos 0) ≡ pos 150900
  pub position_below : height_of three_for_two (neg_ℤ (pos 2)) ≡ neg_ℤ (pos 3000)
  pub line : line_height below_zero 10 ≡ pos 1500
  pub line_below : line_height below_zero 5 ≡ neg_ℤ (pos 1000)

-- the line is at 500 at the raw value 750, and goes on outside of the scale
pub record SideExamples : Type 0 where
  pub below : IsLineBelow three_for_two 749 (pos 500)
  pub not_below_there : ¬ IsLineBelow three_for_two 750 (pos 500)
  pub above : IsLineAbove three_for_two 751 (pos 500)
  pub not_above_there : ¬ IsLineAbove three_for_two 750 (pos 500)
  pub at_most_there : IsLineAtMost three_for_two 750 (pos 500)
  pub not_at_most : ¬ IsLineAtMost three_for_two 751 (pos 500)
  pub at_least_there : IsLineAtLeast three_for_two 750 (pos 500)
  pub not_at_least : ¬ IsLineAtLeast three_for_two 749 (pos 500)
  pub below_outside : IsLineBelow below_zero 0 (neg_ℤ (pos 306))
  pub above_outside : IsLineAbove below_zero 512 (pos 201)
  pub near_outside : IsLineNear three_for_two 1503 (pos 1003) (pos 1)
  pub near_by_half : IsLineNear three_for_two 750 (pos 540) (pos 40)
  pub not_near_by_half : ¬ IsLineNear three_for_two 750 (pos 541) (pos 40)
  pub not_near_below : ¬ IsLineNear three_for_two 750 (pos 459) (pos 40)

pub record WindowExamples : Type 0 where
  pub greatest : IsNear (pos 105) (pos 100) (pos 5)
  pub least : IsNear (pos 95) (pos 100) (pos 5)
  pub too_great : ¬ IsNear (pos 106) (pos 100) (pos 5)
  pub too_small : ¬ IsNear (pos 94) (pos 100) (pos 5)
  pub below_0 : IsNear (neg_ℤ (pos 3)) (neg_ℤ (pos 10)) (pos 7)
  pub too_great_below_0 : ¬ IsNear (neg_ℤ (pos 2)) (neg_ℤ (pos 10)) (pos 7)

-- a tolerance of 1, and one that reaches past a scale's ends
pub record ToleranceExamples : Type 0 where
  pub within_1 : IsReading (record three_for_two { tol = pos 1 }) 750 (pos 501)
  pub narrow : ¬ IsReading (record three_for_two { tol = pos 1 }) 750 (pos 502)
  pub narrow_below : ¬ IsReading (record three_for_two { tol = pos 1 }) 750 (pos 498)
  pub past_last : IsWithinTolerance three_for_two 1500 (pos 1005)
  pub too_far : ¬ IsWithinTolerance three_for_two 1500 (pos 1006)
  pub before_first : IsWithinTolerance below_zero 7 (neg_ℤ (pos 305))
  pub first_reading : IsReading below_zero 7 (neg_ℤ (pos 300))
  pub no_reading_before_first : ¬ IsReading below_zero 7 (neg_ℤ (pos 301))
  pub last_reading : IsReading below_zero 510 (pos 200)
  pub no_reading_after_last : ¬ IsReading below_zero 510 (pos 201)

-- a sensor that answers its raw value, from 7 to 507
abbrev pub from_7 : Scale
from_7 = scale_by 7 507 (pos 7) (pos 507) (pos 1)

-- it needn't be callable, nor answer near the line, outside of the scale; within it must, at both ends and between
pub record CalibrationExamples : Type 0 where
  pub exact : KeepsCalibration (λ raw. 7 ≤ raw × raw ≤ 507) (λ raw v. raw ≤ 507 → 7 ≤ raw → v ≡ pos raw) from_7
  pub not_callable_first : ¬ KeepsCalibration (λ raw. 8 ≤ raw) (λ raw v. v ≡ pos raw) from_7
  pub not_callable_last : ¬ KeepsCalibration (λ raw. raw < 507) (λ raw v. v ≡ pos raw) from_7
  pub off_at_first : ¬ KeepsCalibration (λ raw. ⊤) (λ raw v. 8 ≤ raw → v ≡ pos raw) from_7
  pub off_at_last : ¬ KeepsCalibration (λ raw. ⊤) (λ raw v. raw < 507 → v ≡ pos raw) from_7

-- scales that start above the raw value 0, and the figures of which one falls
pub record ScaleExamples : Type 0 where
  pub between : IsScale from_7
  pub below_0 : IsScale (scale_by 100 200 (neg_ℤ (pos 100000)) (neg_ℤ (pos 99999)) (pos 10))
  pub topmost : IsScale (scale_by 65534 65535 (pos 99999) (pos 100000) (pos 2))
  pub raws_fall : ¬ IsScale (scale_by 3 2 (pos 0) (pos 1) (pos 1))
  pub positions_fall : ¬ IsScale (scale_by 0 1 (pos 2) (pos 1) (pos 1))
  pub tolerance_below_0 : ¬ IsScale (scale_by 0 1 (pos 0) (pos 1) (neg_ℤ (pos 1)))
  pub figures : scale_by 1 2 (pos 3) (pos 4) (pos 5)
      ≡ record { raw_lo = 1; raw_hi = 2; at_lo = pos 3; at_hi = pos 4; tol = pos 5 }

pub record LineExamples : Type 0 where
  pub heights : HeightExamples
  pub sides : SideExamples
  pub windows : WindowExamples
  pub tolerances : ToleranceExamples
  pub calibrations : CalibrationExamples
  pub scales : ScaleExamples
