pub mod Histories
pub mod Moments
pub mod Ordering
pub mod Running
pub mod Settling
pub mod One
pub mod Receipts
