pub mod lemmas
mod Names
mod Settled
mod Instance
mod Closing
mod Timing
mod Settling
mod EachCases
mod Outcomes
