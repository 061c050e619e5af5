-- What contracts see of points: a line by two points, a tolerance, and their limits.
use Rattle.std.specs.Prelude.{ℕ, ◌<◌, ℤ, pos, ◌+ℤ◌, ◌≤ℤ◌, ◌<ℤ◌}

-- the two points of a sensor's line, and how far a reading may be off it
pub record Scale : Type 0 where
  pub raw_lo : ℕ
  pub raw_hi : ℕ
  pub at_lo : ℤ
  pub at_hi : ℤ
  pub tol : ℤ

-- the scale of these figures
abbrev pub scale_by : ℕ → ℕ → ℤ → ℤ → ℤ → Scale
scale_by raw_lo raw_hi at_lo at_hi tol =
    record { raw_lo = raw_lo; raw_hi = raw_hi; at_lo = at_lo; at_hi = at_hi; tol = tol }

-- the limits that every scale keeps
pub record IsScale (s : Scale) : Type 0 where
  pub raws_rise : s.raw_lo < s.raw_hi
  pub raws_fit : s.raw_hi < 65536
  pub ats_rise : s.at_lo <ℤ s.at_hi
  pub lowest : pos 0 ≤ℤ (s.at_lo +ℤ pos 100000)
  pub highest : s.at_hi ≤ℤ pos 100000
  pub finest : pos 1 ≤ℤ s.tol
  pub coarsest : s.tol ≤ℤ pos 10
