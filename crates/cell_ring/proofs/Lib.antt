pub mod lemmas
mod Names
mod Ring
mod OnRing
mod Spots
mod Calls
mod Journeys
mod Followed
mod Sums
mod Rows
