pub mod Running
pub mod Keeping
pub mod Demanding
pub mod Turning
pub mod Others
