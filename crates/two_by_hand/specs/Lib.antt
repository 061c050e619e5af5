pub mod Requests
pub mod RequestExamples
