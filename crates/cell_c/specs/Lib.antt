pub mod Numbers
pub mod Replies
pub mod Examples
