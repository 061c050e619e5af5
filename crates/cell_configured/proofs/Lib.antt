pub mod lemmas
mod Shown
mod Five
