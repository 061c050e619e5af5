-- Curves: straight lines from one measured pair to the next.
use Rattle.std.specs.Prelude.{◌≡◌, ℕ, ◌+◌, ◌-◌, ◌<◌, ◌≤◌, ℤ, pos, ◌-ℤ◌, ◌≤ℤ◌, List, [], ◌∷◌, length, take}
use Rattle.std.specs.Prelude.{slice_index_or}
use Rattle.cell_sensors.specs.Scale.{Scale}
use Rattle.cell_sensors.specs.Line.{IsLineNear, IsLineRoundedDown}

-- a raw value, and the position measured there
abbrev pub Pair : Type 0
Pair = ℕ × ℤ

abbrev pub pair_at : List Pair → ℕ → Pair
pair_at pairs i = slice_index_or pairs i (0, pos 0)

abbrev pub raw_at : List Pair → ℕ → ℕ
raw_at pairs i = (pair_at pairs i).0

-- ---- which pairs make a curve

pub record HasCount (pairs : List Pair) : Type 0 where
  pub least : 2 ≤ length pairs
  pub most : length pairs ≤ 32

-- the first raw value and the last are those of the scale
pub record HasEnds (s : Scale) (pairs : List Pair) : Type 0 where
  pub first : raw_at pairs 0 ≡ s.raw_lo
  pub last : raw_at pairs (length pairs - 1) ≡ s.raw_hi

-- each raw value is below the next
abbrev pub IsRising : List Pair → Type 0
IsRising pairs = (i : ℕ) → i < length pairs - 1 → raw_at pairs i < raw_at pairs (i + 1)

-- a pair's position is within the tolerance less 1 of the line, and from the scale's first position to its last
pub record IsNearPair (s : Scale) (pair : Pair) : Type 0 where
  pub near : IsLineNear s pair.0 pair.1 (s.tol -ℤ pos 1)
  pub first : s.at_lo ≤ℤ pair.1
  pub last : pair.1 ≤ℤ s.at_hi

abbrev pub AreNearLine : Scale → List Pair → Type 0
AreNearLine s pairs = (i : ℕ) → i < length pairs → IsNearPair s (pair_at pairs i)

pub record IsCurve (s : Scale) (pairs : List Pair) : Type 0 where
  pub number : HasCount pairs
  pub ends : HasEnds s pairs
  pub rising : IsRising pairs
  pub near : AreNearLine s pairs

-- ---- what a curve reads

-- a raw value is from the i-th pair's to the next one's
pub record AreNeighbours (pairs : List Pair) (i raw : ℕ) : Type 0 where
  pub within : i < length pairs - 1
  pub from : raw_at pairs i ≤ raw
  pub to : raw ≤ raw_at pairs (i + 1)

-- the straight line through two pairs, which may fall; its tolerance isn't used
abbrev pub line_through : Pair → Pair → Scale
line_through left right = record { raw_lo = left.0; raw_hi = right.0; at_lo = left.1; at_hi = right.1; tol = pos 0 }

-- v is on the straight line through the two neighbours of a raw value, rounded down
pub record IsOnCurve (pairs : List Pair) (raw : ℕ) (v : ℤ) : Type 0 where
  pub left : ℕ
  pub neighbours : AreNeighbours pairs left raw
  pub rounded : IsLineRoundedDown (line_through (pair_at pairs left) (pair_at pairs (left + 1))) raw v

-- the curve of a scale's line goes through its two points
abbrev pub ends_of : Scale → List Pair
ends_of s = (s.raw_lo, s.at_lo) ∷ (s.raw_hi, s.at_hi) ∷ []

-- ---- how a curve is kept

-- a scale, and an array whose first places hold the pairs
pub record Curved : Type 0 where
  pub scale : Scale
  pub places : List Pair
  pub filled : ℕ

abbrev pub pairs_of : Curved → List Pair
pairs_of c = take c.filled c.places

pub record IsKept (s : Scale) (places : List Pair) (filled : ℕ) : Type 0 where
  pub fits : filled ≤ 32
  pub curve : IsCurve s (take filled places)
