pub mod lemmas
mod BeltRows
mod CraneSenses
mod KeepRows
