pub mod lemmas
mod LiteralTurns
