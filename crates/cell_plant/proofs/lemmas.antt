pub mod KeptRuns
pub mod Gauged
pub mod RunSoFar
pub mod Resting
pub mod OneRecord
pub mod Standing
pub mod Unrefused
