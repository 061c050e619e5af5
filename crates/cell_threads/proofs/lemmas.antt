pub mod Turning
pub mod Passes
pub mod FirstSteps
pub mod Answering
pub mod Telling
