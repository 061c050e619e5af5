pub mod Words
pub mod WordExamples
