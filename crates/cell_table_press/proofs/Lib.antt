pub mod lemmas
mod PressRows
mod TableRows
mod TableSenses
mod KeepRows
