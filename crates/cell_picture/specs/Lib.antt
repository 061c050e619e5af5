pub mod Ramps
pub mod Spots
pub mod Values
pub mod Columns
pub mod Parts
pub mod Pictures
pub mod PictureExamples
