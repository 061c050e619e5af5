pub mod Texts
pub mod TextExamples
