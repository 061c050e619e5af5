pub mod Facts
pub mod Program
pub mod InStep
pub mod Course
pub mod Lacking
pub mod Examples
