pub mod Explained
pub mod Served
pub mod ExplainExamples
