pub mod lemmas
mod CallLemmas
mod WayLemmas
mod WordLemmas
mod RefusalLemmas
mod NumberLemmas
mod ExamplesMet
