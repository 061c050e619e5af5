pub mod lemmas
mod Accepted
mod FlagLemmas
mod NumberLemmas
mod CommandLemmas
mod WordRows
