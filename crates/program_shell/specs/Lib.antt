pub mod Exits
pub mod Faults
pub mod Printed
pub mod Words
pub mod Versions
pub mod Asked
pub mod Served
pub mod ShellExamples
