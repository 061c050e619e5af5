pub mod lemmas
mod ShellRows
