-- The two neighbours of a raw value: what is asked of them, and what they say of the curve.
use Rattle.std.proofs.Common.{◌≡◌, ℕ, ◌+◌, ◌<◌, ◌≤◌, ℤ, List, subst, arith}
use Rattle.cell_sensors.specs.Scale.{Scale}
use Rattle.cell_sensors.specs.Line.{IsLineRoundedDown}
use Rattle.cell_sensors.specs.Curve.{Pair, pair_at, raw_at, AreNeighbours, IsCurve, IsNearPair, IsOnCurve, line_through}
use Rattle.cell_sensors.proofs.CurveLemmas.{above_first_raw}

-- what the line between two pairs needs at a raw value
pub record AreAround (s : Scale) (left right : Pair) (raw : ℕ) : Type 0 where
  pub inside : s.raw_lo ≤ left.0
  pub left_near : IsNearPair s left
  pub right_near : IsNearPair s right
  pub rising : left.0 < right.0
  pub low : left.0 ≤ raw
  pub high : raw ≤ right.0

pub around : {s t : Scale} {pairs : List Pair} {i raw : ℕ} {left right : Pair} → s ≡ t → IsCurve t pairs → AreNeighbours pairs i raw → left ≡ pair_at pairs i → right ≡ pair_at pairs (i + 1) → AreAround s left right raw
around {t = t} {pairs = pairs} {i = i} {raw = raw} same curve near left right =
    let here : AreAround t (pair_at pairs i) (pair_at pairs (i + 1)) raw = record {
      inside = subst (λ (n : ℕ). n ≤ raw_at pairs i) curve.ends.first (above_first_raw pairs curve.rising i (omega (arith, near.within)));
      left_near = curve.near i (omega (arith, near.within));
      right_near = curve.near (i + 1) (omega (arith, near.within));
      rising = curve.rising i near.within;
      low = near.from;
      high = omega (arith, near.to);
    } in
    rw (same, left, right) here

pub on_curve : {pairs whole : List Pair} {i raw : ℕ} {left right : Pair} (v : ℤ) → pairs ≡ whole → AreNeighbours pairs i raw → left ≡ pair_at pairs i → right ≡ pair_at pairs (i + 1) → IsLineRoundedDown (line_through left right) raw v → IsOnCurve whole raw v
on_curve {pairs = pairs} {i = i} {raw = raw} v same near left right rounded =
    let here : IsOnCurve pairs raw v = record { left = i; neighbours = near; rounded = rw (left, right) at rounded } in
    subst (λ (p : List Pair). IsOnCurve p raw v) same here
