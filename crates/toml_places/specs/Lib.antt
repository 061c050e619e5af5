pub mod Leading
pub mod Around
pub mod PlaceExamples
