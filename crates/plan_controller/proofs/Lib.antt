pub mod lemmas
mod Rows
