-- The names of this crate that other crates' definitions and proofs use, in one place.
pub use Rattle.cell_team.specs.Heeded.{AreHeeded, AreUnstopped, IsHeeded, IsStoppedBy, is_worn}
pub use Rattle.cell_team.specs.Renewals.{HaveComeFrom, StandAfter, first_team}
pub use Rattle.cell_team.specs.Team.{DrivesOn, HasCome, HasComeFrom, HaveCome, LeadsOrStays, Programs, Team}
pub use Rattle.cell_team.specs.Team.{program_with_stops, programs_of}
pub use Rattle.cell_team.specs.WrongPrograms.{scales}
