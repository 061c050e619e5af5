-- What a recording of a run has written.
use Rattle.std.specs.Prelude.{◌≡◌, ◌<◌, ◌≤◌, ℕ, Bool, true, false, List, codes, length, ◌⊎◌, Option, Err, IfSome}
use Rattle.std.specs.Io.KnownBytes.{Appends}
use Rattle.cell_rules.specs.Types.{Event, journal_of}
use Rattle.cell_rules.specs.Names.{IsAudited, IsStartState}
use Rattle.text_io.specs.Output.{WrotePrefix}
use Rattle.cell_notes.specs.declared.run_record.RunRecord.{RunRecord}
use Rattle.csv_rows.specs.ScriptEnd.{max_records}
use Rattle.history_app.specs.Scripts.{script_of}
use Rattle.cell_config.specs.Configured.{Says}
use Rattle.cell_config.specs.ConfigWords.{config_fault_text}
use Rattle.cell_config.specs.declared.fault.ConfigFault.{ConfigFault}
use Rattle.program_shell.specs.declared.exit.Exit.{Exit}
use Rattle.program_shell.specs.declared.exit.Exit.TheVariants.{Well, Failed, Refused}
use Rattle.cell_app.specs.Reported.{AreFine}
use Rattle.cell_app.specs.Served.{TellsWorkersOf}
use Rattle.program_shell.specs.Faults.{fault_line}

-- a history that is legal, gives a run's journals, and leads to the run's end
abbrev pub IsHistoryOf : RunRecord → List Event → Type 0
IsHistoryOf r history = IsAudited r.start (journal_of r.journals) r.end history

-- the script of a run's history was written
pub record WroteScript (r : RunRecord) (old new : Option (List ℕ)) : Type 0 where
  pub history : List Event
  pub is : IsHistoryOf r history
  pub fits : length history ≤ max_records
  pub written : Appends old new (script_of r.start history)

-- only a prefix of the script was written
abbrev pub WroteScriptInPart : RunRecord → Option (List ℕ) → Option (List ℕ) → Type 0
WroteScriptInPart r old new =
    (history : List Event) × (IsHistoryOf r history × WrotePrefix old new (script_of r.start history))

-- the history has more events than a script has room for, and a prefix of the fault's line was written
abbrev pub IsTooLong : RunRecord → Option (List ℕ) → Option (List ℕ) → Type 0
IsTooLong r old new =
    (history : List Event)
    × (IsHistoryOf r history × ((max_records < length history) × WrotePrefix old new (fault_line (codes "long"))))

-- memory ran out, and a prefix of the fault's line was written
abbrev pub LacksMemory : Option (List ℕ) → Option (List ℕ) → Type 0
LacksMemory old new = WrotePrefix old new (fault_line (codes "memory"))

-- how a script was written, by how the writing ends
abbrev pub IsWritten : List ℕ → Bool → Exit → Option (List ℕ) → Option (List ℕ) → Type 0
IsWritten script fine Well old new = (fine ≡ true) × Appends old new script
IsWritten script fine Failed old new = ((fine ≡ false) × Appends old new script) ⊎ WrotePrefix old new script
IsWritten script fine Refused old new = ⊥

-- A run wasn't told whole: a machine was stopped, and the script was written; or only a prefix of the script was; or a
-- prefix of a fault's line.
abbrev pub TellingFails : RunRecord → Option (List ℕ) → Option (List ℕ) → Type 0
TellingFails r old new =
    ((¬ AreFine r.status) × WroteScript r old new)
    ⊎ (WroteScriptInPart r old new ⊎ (IsTooLong r old new ⊎ LacksMemory old new))

-- how a run was told, by how the telling ends
abbrev pub IsTold : RunRecord → Exit → Option (List ℕ) → Option (List ℕ) → Type 0
IsTold r Well old new = AreFine r.status × WroteScript r old new
IsTold r Failed old new = TellingFails r old new
IsTold r Refused old new = ⊥

-- a record of a run by six workers of the configuration that the bytes give, from a start
pub record TellsPacedRun (turns tries : ℕ) (bytes : List ℕ) (r : RunRecord) : Type 0 where
  pub run : TellsWorkersOf turns tries bytes r
  pub start : IsStartState r.start

-- the cell was run, no machine was stopped, and the script of the run's history was written
abbrev pub WasRecorded : ℕ → ℕ → Option (List ℕ) → Option (List ℕ) → Option (List ℕ) → Type 0
WasRecorded turns tries remaining old new =
    IfSome remaining (λ bytes. (r : RunRecord)
    × (TellsPacedRun turns tries bytes r × (AreFine r.status × WroteScript r old new)))

-- The recording failed: the configuration was refused, memory ran out, or a thread couldn't be started, and a prefix of
-- the fault's line was written; or the run wasn't told whole.
abbrev pub RecordingFails : ℕ → ℕ → List ℕ → Option (List ℕ) → Option (List ℕ) → Type 0
RecordingFails turns tries bytes old new =
    ((fault : ConfigFault) × (Says bytes (Err fault) × WrotePrefix old new (fault_line (config_fault_text fault))))
    ⊎ (LacksMemory old new
    ⊎ (WrotePrefix old new (fault_line (codes "spawn"))
    ⊎ ((r : RunRecord) × (TellsPacedRun turns tries bytes r × TellingFails r old new))))
