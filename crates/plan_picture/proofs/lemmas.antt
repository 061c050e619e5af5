pub mod Bytes
pub mod Counting
pub mod Having
pub mod Parts
pub mod Ranges
pub mod Words
pub mod Zips
