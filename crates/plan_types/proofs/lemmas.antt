pub mod Below
pub mod Checked
pub mod Spaces
