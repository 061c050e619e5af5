pub mod Alone
pub mod Needs
pub mod Row
pub mod Rows
pub mod Right
pub mod Ends
pub mod Complete
pub mod Compiled
