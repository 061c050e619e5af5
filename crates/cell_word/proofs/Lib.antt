pub mod lemmas
mod Names
mod Fields
mod Growing
mod Windows
mod Seen
mod PartyLemmas
mod Trying
mod Turning
mod SameAnswer
mod Writing
mod Changing
mod Possible
mod Looking
mod GuardsHold
mod StateWordsHold
mod ZonesAtOnce
mod After
