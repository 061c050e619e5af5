pub mod Devices
pub mod Rounds
pub mod DeviceExamples
pub mod RoundExamples
pub mod DeviceLaws
