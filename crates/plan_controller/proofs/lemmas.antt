pub mod Kinds
pub mod Leading
pub mod Permitting
pub mod Caring
pub mod Benching
