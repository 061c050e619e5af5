pub mod CellMotors
pub mod Demands
pub mod DemandExamples
