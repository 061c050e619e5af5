-- What the program `history` does for its words.
use Rattle.std.specs.Prelude.{ℕ, List, Option}
use Rattle.clap.specs.Words.{Text}
use Rattle.program_shell.specs.Served.{Served}
use Rattle.cell_words.specs.Words.{AskByFlags}
use Rattle.cell_config.specs.Settings.{max_bytes_read}
use Rattle.history_app.specs.Recorded.{RecordingFails, WasRecorded}

-- `clap` takes the words as flags of `run`, and they have these turns and tries
abbrev pub AskForHistory : ℕ → ℕ → List Text → Type 0
AskForHistory turns tries words = AskByFlags turns tries words

-- what `serve` says of a recording
abbrev pub Records : ℕ → ℕ → ℕ → Option (List ℕ) → Option (List ℕ) → Option (List ℕ) → Option (List ℕ) → Type 0
Records turns tries = Served (WasRecorded turns tries) (RecordingFails turns tries) max_bytes_read
