pub mod Excluding
pub mod Checked
pub mod Lasting
pub mod Running
pub mod Masking
