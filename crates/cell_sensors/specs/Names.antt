-- The names of this crate that other crates' definitions and proofs use, in one place.
pub use Rattle.cell_sensors.specs.Curve.{AreNeighbours, Curved, HasCount, IsCurve, IsNearPair, IsOnCurve, IsRising}
pub use Rattle.cell_sensors.specs.Curve.{Pair, ends_of, line_through, pair_at, pairs_of, raw_at}
pub use Rattle.cell_sensors.specs.CurveTests.{is_curve, is_rising}
pub use Rattle.cell_sensors.specs.Line.{IsLineAbove, IsLineAtLeast, IsLineAtMost, IsLineBelow, IsLineNear}
pub use Rattle.cell_sensors.specs.Line.{IsLineRoundedDown, IsNear, IsRawAt, IsReading, IsWithinTolerance, height_of}
pub use Rattle.cell_sensors.specs.Line.{line_height, raw_width}
pub use Rattle.cell_sensors.specs.Potentiometers.{RobotScales}
pub use Rattle.cell_sensors.specs.Scale.{IsScale, Scale}
