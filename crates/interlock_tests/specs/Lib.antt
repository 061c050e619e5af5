pub mod Held
pub mod Letters
