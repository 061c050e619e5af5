pub mod lemmas
mod Names
mod Assembling
mod TeamRows
mod PromiseRows
mod SixTold
