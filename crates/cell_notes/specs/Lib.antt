pub mod Asks
pub mod ByMachine
pub mod ValueRows
pub mod NoteRows
pub mod Notes
pub mod Statuses
pub mod Names
