pub mod Events
pub mod Together
