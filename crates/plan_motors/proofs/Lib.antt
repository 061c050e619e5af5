mod Wanted
pub mod lemmas
mod Posing
mod Leading
mod RunRows
mod NeedRows
mod PoseRows
mod PartRows
mod SpaceRows
mod PlainMotors
