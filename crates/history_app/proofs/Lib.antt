mod WriteLemmas
mod ServeLemmas
mod LawLemmas
pub mod lemmas
mod Lines
mod Reading
mod Openings
mod StatusLemmas
