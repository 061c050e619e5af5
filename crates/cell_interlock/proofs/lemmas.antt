pub mod Journals
pub mod Order
