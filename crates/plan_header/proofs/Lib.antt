pub mod lemmas
mod HeaderRows
mod HeadersTold
mod ModuleRows
mod NoneLeft
mod Numbering
mod NumbersTold
mod PlantHeaderRows
mod TurnRows
