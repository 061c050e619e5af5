pub mod lemmas
mod Digits
mod RecordLemmas
mod RowRows
mod ScriptEndRows
