pub mod Recording
pub mod Telling
