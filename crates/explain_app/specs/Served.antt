-- What the program `explain` has done.
use Rattle.std.specs.Prelude.{◌≡◌, ◌≢◌, ◌≤◌, ℕ, List, Option, IfSome}
use Rattle.clap.specs.Words.{Text}
use Rattle.text_io.specs.Input.{TakesAtMost}
use Rattle.cell_words.specs.Words.{AreTaken, mode_of}
use Rattle.cell_words.specs.declared.words.Mode.TheVariants.{Replay}
use Rattle.cell_replay.specs.Script.{max_bytes_read, script_outcome}
use Rattle.cell_config.specs.Settings.{settings_of, max_bytes_read as config_bytes_read}
use Rattle.explain_app.specs.Explained.{IsTextOfConfig, IsTextOfScript, LeavesUnsaid, SaysOfConfig, SaysOfScript}
use Rattle.cell_replay.specs.declared.fault.ReplayFault.{ReplayFault}
use Rattle.explain_app.specs.declared.verdict.Verdict.{Verdict}
use Rattle.explain_app.specs.declared.verdict.Verdict.TheVariants.{Taken, Refused}

-- `clap` takes the words, and they ask for a replay: a script is explained
abbrev pub AskOfScript : List Text → Type 0
AskOfScript words = AreTaken words × (mode_of words ≡ Replay)

-- `clap` takes the words, and they ask for a simulation or a run: a configuration is explained
abbrev pub AskOfConfig : List Text → Type 0
AskOfConfig words = AreTaken words × (mode_of words ≢ Replay)

-- the exit status of an input that was read
abbrev pub verdict_status : Verdict → ℕ
verdict_status Taken = 0
verdict_status Refused = 1

-- no explanation was written, for some fault
abbrev pub IsUnsaid : (List ℕ → Type 0) → Option (List ℕ) → Option (List ℕ) → Type 0
IsUnsaid IsText old new = (fault : ReplayFault) × LeavesUnsaid IsText fault old new

-- What `serve` says of an input of one kind: the exit status, with what was written; and the most that was taken of the
-- input. Known bytes of the input are `input` before and `rest` after it; of the output, `old` and `new`.
pub record Explains (Says : List ℕ → Verdict → Option (List ℕ) → Option (List ℕ) → Type 0)
    (IsText : Option (List ℕ) → List ℕ → Type 0) (most exit : ℕ) (input rest old new : Option (List ℕ)) : Type 0 where
  pub status : exit ≤ 3
  pub words : exit ≢ 2
  pub silent : exit ≡ 0 → IfSome input (λ bytes. Says bytes Taken old new)
  pub told : exit ≡ 1 → IfSome input (λ bytes. Says bytes Refused old new)
  pub failed : exit ≡ 3 → IsUnsaid (IsText input) old new
  pub taken : TakesAtMost input rest most

-- of a script
abbrev pub ExplainsScript : ℕ → Option (List ℕ) → Option (List ℕ) → Option (List ℕ) → Option (List ℕ) → Type 0
ExplainsScript = Explains (λ bytes. SaysOfScript (script_outcome bytes)) IsTextOfScript max_bytes_read

-- of a configuration
abbrev pub ExplainsConfig : ℕ → Option (List ℕ) → Option (List ℕ) → Option (List ℕ) → Option (List ℕ) → Type 0
ExplainsConfig = Explains (λ bytes. SaysOfConfig (settings_of bytes)) IsTextOfConfig config_bytes_read
