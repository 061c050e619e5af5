-- What a failed replay has written.
use Rattle.std.proofs.Common.{inr, codes, ℕ, List, Option}
use Rattle.text_io.specs.Output.{WrotePrefix}
use Rattle.program_shell.proofs.lemmas.Prefixes.{nothing_written}
use Rattle.cell_app.specs.Served.{ReplayFails, fault_line}

-- no line of a script was written before the line of a fault
pub told_before : (old new : Option (List ℕ)) → WrotePrefix old new (fault_line (codes "memory")) → (bytes : List ℕ) → ReplayFails bytes old new
told_before old new w bytes = inr (inr (old, ((0, nothing_written old), inr w)))
