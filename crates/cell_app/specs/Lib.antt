pub mod Reported
pub mod Served
pub mod Asked
pub mod Laws
pub mod OneText
pub mod Statuses
