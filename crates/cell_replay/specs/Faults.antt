-- What a failed replay has written.
use Rattle.std.specs.Prelude.{ℕ, List, take, Option}
use Rattle.std.specs.List.{concat}
use Rattle.std.specs.Io.KnownBytes.{Appends}
pub use Rattle.text_io.specs.Output.{WrotePrefix}
use Rattle.cell_replay.specs.Script.{script_lines, script_text}
use Rattle.text_io.specs.declared.input.InputFault.{InputFault}
use Rattle.text_io.specs.declared.input.InputFault.TheVariants as input
use Rattle.cell_replay.specs.declared.fault.ReplayFault.{ReplayFault}
use Rattle.cell_replay.specs.declared.fault.ReplayFault.TheVariants.{Read, Write, Memory}

-- some first lines were written, each whole
abbrev pub WroteLines : Option (List ℕ) → Option (List ℕ) → List (List ℕ) → Type 0
WroteLines old new lines = (n : ℕ) × Appends old new (concat (take n lines))

abbrev pub Leaves : ReplayFault → List ℕ → Option (List ℕ) → Option (List ℕ) → Type 0
Leaves Read bytes old new = WroteLines old new (script_lines bytes)
Leaves Memory bytes old new = WroteLines old new (script_lines bytes)
Leaves Write bytes old new = WrotePrefix old new (script_text bytes)

-- the fault of a replay that couldn't read its input
abbrev pub replay_fault_of : InputFault → ReplayFault
replay_fault_of input.Read = Read
replay_fault_of input.Memory = Memory
