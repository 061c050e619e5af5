-- Curves in figures: what they read, and why pairs make none.
use Rattle.std.specs.Prelude.{◌≡◌, ℕ, ℤ, pos, neg_ℤ, true, false, List, [], ◌∷◌, ◌++◌, map}
use Rattle.std.specs.List.{range_with_len}
use Rattle.cell_sensors.specs.Scale.{Scale, scale_by}
use Rattle.cell_sensors.specs.Curve.{Pair, AreNeighbours, IsCurve, IsKept, IsOnCurve, ends_of, line_through, pair_at}
use Rattle.cell_sensors.specs.Curve.{pairs_of, raw_at}
use Rattle.cell_sensors.specs.CurveTests.{is_curve}
use Rattle.cell_sensors.specs.CurveFaults.{IsFirstFault}
use Rattle.cell_sensors.specs.Examples.{scale_of, below_zero}
use Rattle.cell_sensors.specs.declared.curve.CurveFault.TheVariants.{Count, Ends, Order, OffLine}

-- a curve reads this position at a raw value, and no other
abbrev pub Reads : List Pair → ℕ → ℤ → Type 0
Reads pairs raw v = IsOnCurve pairs raw v × ((other : ℤ) → IsOnCurve pairs raw other → other ≡ v)

-- an axis of 1000 positions, with 4 raw values for each
abbrev pub quarters : Scale
quarters = scale_of 0 4000 (pos 0) (pos 1000)

-- 4 above the line at 1000
abbrev pub bulging : List Pair
bulging = (0, pos 0) ∷ (1000, pos 254) ∷ (2000, pos 500) ∷ (4000, pos 1000) ∷ []

-- positions below 0, and a part that falls
abbrev pub sunk : Scale
sunk = scale_of 10 18 (neg_ℤ (pos 6)) (pos 0)

abbrev pub falling : List Pair
falling = (10, neg_ℤ (pos 6)) ∷ (12, neg_ℤ (pos 1)) ∷ (15, neg_ℤ (pos 5)) ∷ (18, pos 0) ∷ []

-- an axis with one raw value for each position, and as many pairs on its line, each a step from the next
abbrev pub even : Scale
even = scale_of 0 31 (pos 0) (pos 31)

abbrev pub steps : ℕ → List Pair
steps count = map (λ n. (n, pos n)) (range_with_len 0 count)

pub record ReadingExamples : Type 0 where
  pub bulges : IsCurve quarters bulging
  pub at_0 : Reads bulging 0 (pos 0)
  pub at_1 : Reads bulging 1 (pos 0)
  pub at_500 : Reads bulging 500 (pos 127)
  pub at_1000 : Reads bulging 1000 (pos 254)
  pub at_1500 : Reads bulging 1500 (pos 377)
  pub at_1999 : Reads bulging 1999 (pos 499)
  pub at_3000 : Reads bulging 3000 (pos 750)
  pub at_4000 : Reads bulging 4000 (pos 1000)
  pub falls : IsCurve sunk falling
  pub at_11 : Reads falling 11 (neg_ℤ (pos 4))
  pub at_13 : Reads falling 13 (neg_ℤ (pos 3))
  pub at_14 : Reads falling 14 (neg_ℤ (pos 4))
  pub at_16 : Reads falling 16 (neg_ℤ (pos 4))
  pub at_17 : Reads falling 17 (neg_ℤ (pos 2))
  pub fewest_pairs : IsCurve quarters ((0, pos 0) ∷ (4000, pos 1000) ∷ [])
  pub most_pairs : IsCurve even (steps 32)

pub record FaultExamples : Type 0 where
  pub one_pair : IsFirstFault quarters ((0, pos 0) ∷ []) Count
  pub pair_too_many : IsFirstFault even (steps 33) Count
  pub first_end : IsFirstFault quarters ((1, pos 0) ∷ (1000, pos 254) ∷ (2000, pos 500) ∷ (4000, pos 1000) ∷ []) Ends
  pub last_end : IsFirstFault quarters ((0, pos 0) ∷ (1000, pos 254) ∷ (2000, pos 500) ∷ (3999, pos 1000) ∷ []) Ends
  pub ends_before_others :
      IsFirstFault quarters ((1, pos 0) ∷ (1000, pos 255) ∷ (1000, pos 500) ∷ (4000, pos 1000) ∷ []) Ends
  pub equal_raws : IsFirstFault quarters ((0, pos 0) ∷ (1000, pos 254) ∷ (1000, pos 500) ∷ (4000, pos 1000) ∷ []) Order
  pub far : IsFirstFault quarters ((0, pos 0) ∷ (1000, pos 255) ∷ (2000, pos 500) ∷ (4000, pos 1000) ∷ []) OffLine
  pub far_below : IsFirstFault quarters ((0, pos 0) ∷ (1000, pos 245) ∷ (2000, pos 500) ∷ (4000, pos 1000) ∷ []) OffLine
  pub outside : IsFirstFault quarters ((0, pos 0) ∷ (2000, pos 500) ∷ (4000, pos 1001) ∷ []) OffLine
  pub below_first : IsFirstFault quarters ((0, neg_ℤ (pos 1)) ∷ (2000, pos 500) ∷ (4000, pos 1000) ∷ []) OffLine

-- the steps may be wrong at the first pair or the last, and the positions at both ends of the scale too
pub record EdgeFaultExamples : Type 0 where
  pub first_step : IsFirstFault quarters ((0, pos 0) ∷ (0, pos 0) ∷ (2000, pos 500) ∷ (4000, pos 1000) ∷ []) Order
  pub last_step : IsFirstFault quarters ((0, pos 0) ∷ (2000, pos 500) ∷ (4001, pos 1000) ∷ (4000, pos 1000) ∷ []) Order
  pub first_far : IsFirstFault quarters ((0, pos 5) ∷ (2000, pos 500) ∷ (4000, pos 1000) ∷ []) OffLine
  pub last_far : IsFirstFault quarters ((0, pos 0) ∷ (2000, pos 500) ∷ (4000, pos 995) ∷ []) OffLine
  pub ends_as_far_as_allowed : IsCurve quarters ((0, pos 4) ∷ (2000, pos 496) ∷ (4000, pos 996) ∷ [])
  pub on_the_line : IsCurve (record quarters { tol = pos 1 }) ((0, pos 0) ∷ (2000, pos 500) ∷ (4000, pos 1000) ∷ [])
  pub near_is_too_far :
      IsFirstFault (record quarters { tol = pos 1 }) ((0, pos 0) ∷ (2000, pos 501) ∷ (4000, pos 1000) ∷ []) OffLine

-- each fault makes pairs no curve, also where nothing else is wrong
pub record NoCurveExamples : Type 0 where
  pub one_pair : ¬ IsCurve (scale_of 3 3 (pos 0) (pos 0)) ((3, pos 0) ∷ [])
  pub pair_too_many : ¬ IsCurve (scale_of 0 32 (pos 0) (pos 32)) (steps 33)
  pub ends : ¬ IsCurve quarters ((4, pos 1) ∷ (2000, pos 500) ∷ (4000, pos 1000) ∷ [])
  pub order : ¬ IsCurve quarters ((0, pos 0) ∷ (2000, pos 500) ∷ (2000, pos 500) ∷ (4000, pos 1000) ∷ [])
  pub far : ¬ IsCurve quarters ((0, pos 0) ∷ (2000, pos 505) ∷ (4000, pos 1000) ∷ [])

-- the same by the test that computes
pub record TestExamples : Type 0 where
  pub bulging : is_curve quarters bulging ≡ true
  pub falling : is_curve sunk falling ≡ true
  pub one_pair : is_curve (scale_of 3 3 (pos 0) (pos 0)) ((3, pos 0) ∷ []) ≡ false
  pub most_pairs : is_curve even (steps 32) ≡ true
  pub pair_too_many : is_curve (scale_of 0 32 (pos 0) (pos 32)) (steps 33) ≡ false
  pub first_end : is_curve quarters ((4, pos 1) ∷ (2000, pos 500) ∷ (4000, pos 1000) ∷ []) ≡ false
  pub last_end : is_curve quarters ((0, pos 0) ∷ (2000, pos 500) ∷ (3996, pos 999) ∷ []) ≡ false
  pub last_step :
      is_curve quarters ((0, pos 0) ∷ (2000, pos 500) ∷ (4001, pos 1000) ∷ (4000, pos 1000) ∷ []) ≡ false
  pub first_far : is_curve quarters ((0, pos 5) ∷ (2000, pos 500) ∷ (4000, pos 1000) ∷ []) ≡ false
  pub last_far : is_curve quarters ((0, pos 0) ∷ (2000, pos 500) ∷ (4000, pos 995) ∷ []) ≡ false
  pub before_first : is_curve quarters ((0, neg_ℤ (pos 1)) ∷ (2000, pos 500) ∷ (4000, pos 1000) ∷ []) ≡ false
  pub after_last : is_curve quarters ((0, pos 0) ∷ (2000, pos 500) ∷ (4000, pos 1001) ∷ []) ≡ false

-- pairs by their places; neighbours of a raw value, which shares its pair with those before; the line through two pairs
pub record PlaceExamples : Type 0 where
  pub second_pair : pair_at bulging 1 ≡ (1000, pos 254)
  pub last_raw : raw_at bulging 3 ≡ 4000
  pub no_pair : pair_at bulging 4 ≡ (0, pos 0)
  pub left_of_pair : AreNeighbours bulging 1 2000
  pub right_of_pair : AreNeighbours bulging 2 2000
  pub before_both : ¬ AreNeighbours bulging 1 999
  pub after_both : ¬ AreNeighbours bulging 1 2001
  pub past_the_pairs : ¬ AreNeighbours bulging 4 0
  pub falling_line : line_through (12, neg_ℤ (pos 1)) (15, neg_ℤ (pos 5))
      ≡ scale_by 12 15 (neg_ℤ (pos 1)) (neg_ℤ (pos 5)) (pos 0)
  pub ends : ends_of below_zero ≡ (7, neg_ℤ (pos 300)) ∷ (510, pos 200) ∷ []
  pub first_places : pairs_of (record { scale = quarters; places = bulging; filled = 2 })
      ≡ (0, pos 0) ∷ (1000, pos 254) ∷ []
  pub kept_with_more_places : IsKept quarters (bulging ++ bulging) 4
  pub kept_full : IsKept even (steps 32) 32
  pub last_not_kept : ¬ IsKept quarters bulging 3
  pub more_than_fit : ¬ IsKept quarters bulging 33

pub record CurveExamples : Type 0 where
  pub readings : ReadingExamples
  pub faults : FaultExamples
  pub edges : EdgeFaultExamples
  pub none : NoCurveExamples
  pub tests : TestExamples
  pub places : PlaceExamples
