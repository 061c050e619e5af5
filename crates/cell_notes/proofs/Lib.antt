pub mod lemmas
mod MachineValues
mod LiteralValues
mod LiteralNotes
