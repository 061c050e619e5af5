pub mod Prefixes
pub mod Exits
pub mod Serving
pub mod Versions
