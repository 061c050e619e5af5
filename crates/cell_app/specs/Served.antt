-- What a run of the program has done.
use Rattle.std.specs.Prelude.{◌≡◌, ℕ, true, List, codes, ◌⊎◌, Option, Some, None, Ok, Err, IfSome}
use Rattle.std.specs.Io.KnownBytes.{Appends}
use Rattle.csv_rows.specs.declared.script_end.Outcome.TheVariants.{Clean, Refused}
use Rattle.csv_rows.specs.declared.script_end.ScriptFault.{ScriptFault}
use Rattle.cell_replay.specs.Faults.{WrotePrefix, WroteLines}
use Rattle.cell_replay.specs.Script.{max_bytes_read, script_lines, script_outcome, script_text}
use Rattle.cell_report.specs.Report.{report_text}
use Rattle.cell_report.specs.declared.audit_faults.AuditFault.{AuditFault}
use Rattle.cell_report.specs.declared.audit_faults.AuditFault.TheVariants.{Memory as AuditMemory}
use Rattle.cell_rules.specs.ModelState.{ModelState}
use Rattle.cell_parts.specs.Axes.{CellScales}
use Rattle.cell_plant.specs.Names.{TellsRun, CellGauges, on_curves}
use Rattle.cell_notes.specs.declared.run_record.RunRecord.{RunRecord}
use Rattle.cell_config.specs.Configured.{Says, in_order}
use Rattle.cell_config.specs.Settings.{Settings, settings_of, max_bytes_read as config_bytes_read}
use Rattle.cell_config.specs.ConfigWords.{config_fault_text}
use Rattle.cell_config.specs.declared.fault.ConfigFault.{ConfigFault}
use Rattle.cell_workers.specs.Records.{TellsWork}
pub use Rattle.program_shell.specs.Faults.{fault_line}
use Rattle.program_shell.specs.Served.{Served}
use Rattle.cell_app.specs.Reported.{AreFine}

-- the rest of the input is a clean script, and its text was written
abbrev pub WasReplayed : Option (List ℕ) → Option (List ℕ) → Option (List ℕ) → Type 0
WasReplayed remaining old new =
    IfSome remaining (λ bytes. Appends old new (script_text bytes) × (script_outcome bytes ≡ Clean))

-- The replay failed: the script was refused, and its whole text was written, which says so; or a prefix of its text was
-- written; or some of its lines, each whole, and then a prefix of the fault's line, for a failed read or for memory.
abbrev pub ReplayFails : List ℕ → Option (List ℕ) → Option (List ℕ) → Type 0
ReplayFails bytes old new =
    (Appends old new (script_text bytes) × ((fault : ScriptFault) × (script_outcome bytes ≡ Refused fault)))
    ⊎ (WrotePrefix old new (script_text bytes)
    ⊎ ((between : Option (List ℕ)) × (WroteLines old between (script_lines bytes)
    × (WrotePrefix between new (fault_line (codes "read")) ⊎ WrotePrefix between new (fault_line (codes "memory"))))))

-- a record is of the run of the configuration that the bytes give: each reading is the one on the configuration's curve
pub record TellsRunOf (bytes : List ℕ) (r : RunRecord) : Type 0 where
  pub settings : Settings
  pub said : settings_of bytes ≡ Ok settings
  pub scales : CellScales
  pub points : settings.points ≡ in_order scales
  pub run : TellsRun scales (on_curves settings.curves) settings.start settings.schedule r

-- if no machine was stopped, every run of this configuration in which none is has the same report
abbrev pub HasOneReport : List ℕ → RunRecord → Type 0
HasOneReport bytes r =
    AreFine r.status → (s : RunRecord) (audit : Option AuditFault) → TellsRunOf bytes s → AreFine s.status
    → report_text s audit ≡ report_text r audit

-- a record is of the run of the configuration, and there is one report of it
abbrev pub TellsOneRunOf : List ℕ → RunRecord → Type 0
TellsOneRunOf bytes r = TellsRunOf bytes r × HasOneReport bytes r

-- the cell was simulated, no machine was stopped, and the report was written, with the line that the audit found a
-- history
abbrev pub WasSimulated : Option (List ℕ) → Option (List ℕ) → Option (List ℕ) → Type 0
WasSimulated remaining old new =
    IfSome remaining (λ bytes. (r : RunRecord)
    × (TellsOneRunOf bytes r × (AreFine r.status × Appends old new (report_text r None))))

-- the audit fails only if memory runs out
abbrev pub IsAuditOf : Option AuditFault → Type 0
IsAuditOf None = Unit
IsAuditOf (Some fault) = fault ≡ AuditMemory

-- the report of a run with a stopped machine was written, or one that says that the audit ran out of memory; or only a
-- prefix of a report was
abbrev pub ReportFails : RunRecord → Option (List ℕ) → Option (List ℕ) → Type 0
ReportFails r old new =
    (audit : Option AuditFault) × (IsAuditOf audit
    × ((Appends old new (report_text r audit) × ((¬ AreFine r.status) ⊎ (audit ≡ Some AuditMemory)))
    ⊎ WrotePrefix old new (report_text r audit)))

-- The simulation failed: the configuration was refused, or memory ran out, and a prefix of the fault's line was
-- written; or its report is one of a failure.
abbrev pub SimFails : List ℕ → Option (List ℕ) → Option (List ℕ) → Type 0
SimFails bytes old new =
    ((fault : ConfigFault) × (Says bytes (Err fault) × WrotePrefix old new (fault_line (config_fault_text fault))))
    ⊎ (WrotePrefix old new (fault_line (codes "memory"))
    ⊎ ((r : RunRecord) × (TellsOneRunOf bytes r × ReportFails r old new)))

-- a record is of six workers with a gate that is always open
abbrev pub TellsWorkers : CellScales → CellGauges → ModelState → ℕ → ℕ → RunRecord → Type 0
TellsWorkers scales gives opening tries turns r =
    TellsWork scales gives opening tries turns (λ machine turn answer. answer ≡ true) r

-- a record is of a run by six workers of the configuration that the bytes give: each reading is the one on the
-- configuration's curve
pub record TellsWorkersOf (turns tries : ℕ) (bytes : List ℕ) (r : RunRecord) : Type 0 where
  pub settings : Settings
  pub said : settings_of bytes ≡ Ok settings
  pub scales : CellScales
  pub points : settings.points ≡ in_order scales
  pub run : TellsWorkers scales (on_curves settings.curves) settings.start tries turns r

-- the cell was run, no machine was stopped, and the report was written, with the line that the audit found a history
abbrev pub WasRun : ℕ → ℕ → Option (List ℕ) → Option (List ℕ) → Option (List ℕ) → Type 0
WasRun turns tries remaining old new =
    IfSome remaining (λ bytes. (r : RunRecord) × (TellsWorkersOf turns tries bytes r
    × (AreFine r.status × Appends old new (report_text r None))))

-- The run failed: the configuration was refused, memory ran out, or a worker couldn't be started, and a prefix of the
-- fault's line was written; or its report is one of a failure.
abbrev pub RunFails : ℕ → ℕ → List ℕ → Option (List ℕ) → Option (List ℕ) → Type 0
RunFails turns tries bytes old new =
    ((fault : ConfigFault) × (Says bytes (Err fault) × WrotePrefix old new (fault_line (config_fault_text fault))))
    ⊎ (WrotePrefix old new (fault_line (codes "memory"))
    ⊎ (WrotePrefix old new (fault_line (codes "spawn"))
    ⊎ ((r : RunRecord) × (TellsWorkersOf turns tries bytes r × ReportFails r old new))))

-- what `serve` says of a replay
abbrev pub Replays : ℕ → Option (List ℕ) → Option (List ℕ) → Option (List ℕ) → Option (List ℕ) → Type 0
Replays = Served WasReplayed ReplayFails max_bytes_read

-- what it says of a simulation
abbrev pub Simulates : ℕ → Option (List ℕ) → Option (List ℕ) → Option (List ℕ) → Option (List ℕ) → Type 0
Simulates = Served WasSimulated SimFails config_bytes_read

-- what it says of a run by six workers
abbrev pub Runs : ℕ → ℕ → ℕ → Option (List ℕ) → Option (List ℕ) → Option (List ℕ) → Option (List ℕ) → Type 0
Runs turns tries = Served (WasRun turns tries) (RunFails turns tries) config_bytes_read
