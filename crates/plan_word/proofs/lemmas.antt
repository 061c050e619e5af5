pub mod Staying
pub mod Fields
pub mod Guests
pub mod Shapes
pub mod LaidOut
pub mod RoundTrip
pub mod Soundness
