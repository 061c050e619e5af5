-- The names of this crate that other crates' definitions and proofs use, in one place.
pub use Rattle.cell_unit.specs.Sides.{Acts, ActsAndMoves, DemandsHold, IsReady, Side, act_or_rest, noting, part_set}
pub use Rattle.cell_unit.specs.Sides.{side_moved, side_of, side_set}
pub use Rattle.cell_unit.specs.Statuses.{status_of}
pub use Rattle.cell_unit.specs.UnitTurns.{Answers, Leads, Takes, UnitTurn}
