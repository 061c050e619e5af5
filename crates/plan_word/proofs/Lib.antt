pub mod lemmas
mod Apart
mod Laying
mod Seen
mod Guarding
mod Packing
mod StateRows
mod Plain
