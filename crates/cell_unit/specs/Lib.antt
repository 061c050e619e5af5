pub mod Statuses
pub mod Sides
pub mod UnitTurns
pub mod UnitRows
pub mod Names
