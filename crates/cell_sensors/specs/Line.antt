-- The exact line of a scale and readings near it. Heights are times the raw width, so nothing is divided.
use Rattle.std.specs.Prelude.{ℕ, ◌+◌, ◌≤◌, ℤ, pos, ◌+ℤ◌, ◌-ℤ◌, ◌*ℤ◌, ◌≤ℤ◌, ◌<ℤ◌}
use Rattle.cell_sensors.specs.Scale.{Scale}

-- the number of raw values from one point to the other
abbrev pub raw_width : Scale → ℤ
raw_width s = pos s.raw_hi -ℤ pos s.raw_lo

-- how far a position is above the first point, times the raw width
abbrev pub height_of : Scale → ℤ → ℤ
height_of s position = (position -ℤ s.at_lo) *ℤ raw_width s

-- how far the exact line at a raw value is above the first point, times the raw width
abbrev pub line_height : Scale → ℕ → ℤ
line_height s raw = (pos raw -ℤ pos s.raw_lo) *ℤ (s.at_hi -ℤ s.at_lo)

-- the exact line at a raw value is within d of a position
pub record IsLineNear (s : Scale) (raw : ℕ) (position d : ℤ) : Type 0 where
  pub not_below : height_of s position ≤ℤ (line_height s raw +ℤ d *ℤ raw_width s)
  pub not_above : line_height s raw ≤ℤ (height_of s position +ℤ d *ℤ raw_width s)

-- the exact line at a raw value is below, above, at most or at least a position
abbrev pub IsLineBelow : Scale → ℕ → ℤ → Type 0
IsLineBelow s raw position = line_height s raw <ℤ height_of s position

abbrev pub IsLineAbove : Scale → ℕ → ℤ → Type 0
IsLineAbove s raw position = height_of s position <ℤ line_height s raw

abbrev pub IsLineAtMost : Scale → ℕ → ℤ → Type 0
IsLineAtMost s raw position = line_height s raw ≤ℤ height_of s position

abbrev pub IsLineAtLeast : Scale → ℕ → ℤ → Type 0
IsLineAtLeast s raw position = height_of s position ≤ℤ line_height s raw

-- v is within the tolerance of the exact line at a raw value
abbrev pub IsWithinTolerance : Scale → ℕ → ℤ → Type 0
IsWithinTolerance s raw v = IsLineNear s raw v s.tol

-- what a calibrated sensor may answer at a raw value
pub record IsReading (s : Scale) (raw : ℕ) (v : ℤ) : Type 0 where
  pub near : IsWithinTolerance s raw v
  pub first : s.at_lo ≤ℤ v
  pub last : v ≤ℤ s.at_hi

-- a closure (what it requires, what it ensures) may be called from raw_lo to raw_hi, and answers near the line
pub record KeepsCalibration (pre : ℕ → Type 0) (post : ℕ → ℤ → Type 0) (s : Scale) : Type 0 where
  pub callable : (raw : ℕ) → s.raw_lo ≤ raw → raw ≤ s.raw_hi → pre raw
  pub near : (raw : ℕ) → s.raw_lo ≤ raw → raw ≤ s.raw_hi → (v : ℤ) → post raw v → IsReading s raw v

-- v is the exact line at a raw value, rounded down
pub record IsLineRoundedDown (s : Scale) (raw : ℕ) (v : ℤ) : Type 0 where
  pub not_above : height_of s v ≤ℤ line_height s raw
  pub next_above : line_height s raw <ℤ height_of s (v +ℤ pos 1)

-- the raw value is what an ideal sensor gives at a position, rounded down
pub record IsRawAt (s : Scale) (position : ℤ) (raw : ℕ) : Type 0 where
  pub not_above : line_height s raw ≤ℤ height_of s position
  pub next_above : height_of s position <ℤ line_height s (raw + 1)

-- v is within d of t
pub record IsNear (v t d : ℤ) : Type 0 where
  pub not_below : t ≤ℤ (v +ℤ d)
  pub not_above : v ≤ℤ (t +ℤ d)
