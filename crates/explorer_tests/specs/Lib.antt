pub mod Climb
pub mod Crossing
pub mod Nest
pub mod Ring
