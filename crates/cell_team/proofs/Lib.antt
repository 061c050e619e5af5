pub mod lemmas
mod Names
mod Waiting
mod InsidePress
mod WrongRows
mod RenewalRows
mod NextCallRows
