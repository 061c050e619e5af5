pub mod Gauges
pub mod Seen
pub mod Laws
