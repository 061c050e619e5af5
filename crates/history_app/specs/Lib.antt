pub mod Recorded
pub mod Served
pub mod Laws
pub mod Scripts
pub mod Answered
pub mod ScriptExamples
pub mod Statuses
