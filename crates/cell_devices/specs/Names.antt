-- The names of this crate that other crates' definitions and proofs use, in one place.
pub use Rattle.cell_devices.specs.Drives.{DrivesTo, StopsAt}
pub use Rattle.cell_devices.specs.Limits.{retracted_to, travel_from}
pub use Rattle.cell_devices.specs.Motors.{motor_of}
