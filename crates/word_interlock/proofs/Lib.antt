pub mod lemmas
mod Keeps
mod Seats
mod Overtaken
mod Answered
mod Meeting
mod Closing
mod Timing
mod Telling
mod Examples
mod OrderCases
mod SeatCases
mod HistoryCases
mod EachCases
