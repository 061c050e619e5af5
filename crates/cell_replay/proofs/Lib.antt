pub mod lemmas
mod LimitedReads
mod Lines
mod Starts
mod Scripts
mod FirstScripts
mod FaultRows
mod ScriptRows
mod StepRows
mod RowsLeft
mod Writings
mod BufferedWrites
