-- What each exit status says of a replay, of a simulation and of a run by six workers, in other words.
use Rattle.std.specs.Prelude.{◌≡◌, ◌≢◌, ◌<◌, ◌≤◌, ℕ, true, List, [], ◌∷◌, ◌++◌, ◌⊎◌, codes, length, map, Option, Some}
use Rattle.std.specs.Prelude.{None, Ok}
use Rattle.std.specs.Prelude.{Err}
use Rattle.std.specs.Io.KnownBytes.{Appends}
use Rattle.csv_rows.specs.declared.script_end.Outcome.TheVariants as outcome
use Rattle.csv_rows.specs.declared.script_end.ScriptFault.{ScriptFault}
use Rattle.cell_replay.specs.Faults.{WrotePrefix, WroteLines}
use Rattle.cell_replay.specs.Script.{script_lines, script_outcome, script_text}
use Rattle.cell_rules.specs.Types.{Event, Machine, all_machines, journal_of}
use Rattle.cell_rules.specs.Audited.{HasNoHistory, IsAudited}
use Rattle.cell_report.specs.AuditFaults.{IsFault}
use Rattle.cell_report.specs.Report.{report_text}
use Rattle.cell_report.specs.declared.audit_faults.AuditFault.{AuditFault}
use Rattle.cell_report.specs.declared.audit_faults.AuditFault.TheVariants.{Gap, End, Memory as AuditMemory}
use Rattle.text_io.specs.Input.{TakesAtMost}
use Rattle.cell_parts.specs.Axes.{CellScales}
use Rattle.cell_plant.specs.Names.{TellsRun, on_curves}
use Rattle.cell_notes.specs.declared.counts.Counts.{Counts}
use Rattle.cell_notes.specs.declared.run_record.RunRecord.{RunRecord}
use Rattle.cell_notes.specs.declared.status.Status.{Status}
use Rattle.cell_notes.specs.declared.status.Status.TheVariants.{Fine, Worn, Sensor, GateLimit}
use Rattle.cell_config.specs.Configured.{Says, in_order}
use Rattle.cell_config.specs.ConfigWords.{config_fault_text}
use Rattle.cell_config.specs.Settings.{Settings, settings_of}
use Rattle.cell_config.specs.declared.fault.ConfigFault.{ConfigFault}
use Rattle.cell_workers.specs.Records.{TellsWork, has_worker}
use Rattle.program_shell.specs.declared.exit.Exit.TheVariants.{Well, Failed, Refused}
use Rattle.cell_app.specs.Reported.{AreFine, AuditFinds, IsAmiss, ReportTold}
use Rattle.cell_app.specs.Laws.{EachIsFine}
use Rattle.cell_app.specs.Served.{IsAuditOf, ReportFails, Replays, Runs, Simulates, TellsOneRunOf, TellsRunOf}
use Rattle.cell_app.specs.Served.{TellsWorkersOf}

-- what is known when something was refused or failed: not none of these is so
abbrev pub MemoryRanOut : Option (List ℕ) → Option (List ℕ) → Type 0
MemoryRanOut old new = WrotePrefix old new (codes "fault memory\n")

abbrev pub NotRefused : List ℕ → Option (List ℕ) → Option (List ℕ) → Type 0
NotRefused bytes old new =
    (fault : ConfigFault) → Says bytes (Err fault)
    → ¬ WrotePrefix old new (codes "fault " ++ (config_fault_text fault ++ codes "\n"))

pub record ReplaysTell (bytes : List ℕ) : Type 0 where
  pub well : (text : List ℕ) (rest : Option (List ℕ)) → Replays 0 (Some bytes) rest (Some []) (Some text)
      → (text ≡ script_text bytes) × (script_outcome bytes ≡ outcome.Clean)
  pub appended : (rest old new : Option (List ℕ)) → Replays 0 (Some bytes) rest old new
      → Appends old new (script_text bytes) × (script_outcome bytes ≡ outcome.Clean)
  pub takes : (exit : ℕ) (rest old new : Option (List ℕ)) → Replays exit (Some bytes) rest old new
      → (exit < 2) × TakesAtMost (Some bytes) rest 4194305
  pub failed : (rest old new : Option (List ℕ)) → Replays 1 (Some bytes) rest old new
      → ((fault : ScriptFault) → script_outcome bytes ≡ outcome.Refused fault → ¬ Appends old new (script_text bytes))
      → (¬ WrotePrefix old new (script_text bytes))
      → ((between : Option (List ℕ)) → WroteLines old between (script_lines bytes)
      → ¬ WrotePrefix between new (codes "fault read\n"))
      → ((between : Option (List ℕ)) → WroteLines old between (script_lines bytes) → ¬ MemoryRanOut between new)
      → ⊥
  pub took : (exit : ℕ) (old new : List ℕ) → Replays exit (Some bytes) (Some []) (Some old) (Some new)
      → length bytes ≤ 4194305

pub record SimulationsTell (bytes : List ℕ) : Type 0 where
  pub run : (r : RunRecord) → TellsRunOf bytes r
      → (settings : Settings) × (settings_of bytes ≡ Ok settings) × (scales : CellScales)
      × (settings.points ≡ in_order scales)
      × TellsRun scales (on_curves settings.curves) settings.start settings.schedule r
  pub well : (text : List ℕ) (rest : Option (List ℕ)) → Simulates 0 (Some bytes) rest (Some []) (Some text)
      → (r : RunRecord) × TellsRunOf bytes r × AreFine r.status × (text ≡ report_text r None)
  pub appended : (rest old new : Option (List ℕ)) → Simulates 0 (Some bytes) rest old new
      → (r : RunRecord) × TellsRunOf bytes r × AreFine r.status × Appends old new (report_text r None)
  -- whatever run of the configuration it was, its report is that of each run in which no machine is stopped
  pub only_text : (text : List ℕ) (rest : Option (List ℕ)) → Simulates 0 (Some bytes) rest (Some []) (Some text)
      → (s : RunRecord) → TellsRunOf bytes s → AreFine s.status → text ≡ report_text s None
  pub one_report : (r s : RunRecord) (audit : Option AuditFault) → TellsOneRunOf bytes r → AreFine r.status
      → TellsRunOf bytes s → AreFine s.status → report_text s audit ≡ report_text r audit
  pub of_one : (r : RunRecord) → TellsOneRunOf bytes r → TellsRunOf bytes r
  pub takes : (exit : ℕ) (rest old new : Option (List ℕ)) → Simulates exit (Some bytes) rest old new
      → (exit < 2) × TakesAtMost (Some bytes) rest 2097153
  pub failed : (rest old new : Option (List ℕ)) → Simulates 1 (Some bytes) rest old new
      → NotRefused bytes old new → (¬ MemoryRanOut old new)
      → ((r : RunRecord) → TellsRunOf bytes r → ¬ ReportFails r old new) → ⊥
  pub took : (exit : ℕ) (old new : List ℕ) → Simulates exit (Some bytes) (Some []) (Some old) (Some new)
      → length bytes ≤ 2097153

pub record RunsTell (turns tries : ℕ) (bytes : List ℕ) : Type 0 where
  pub run : (r : RunRecord) → TellsWorkersOf turns tries bytes r
      → (settings : Settings) × (settings_of bytes ≡ Ok settings) × (scales : CellScales)
      × (settings.points ≡ in_order scales)
      × TellsWork scales (on_curves settings.curves) settings.start tries turns (λ m turn answer. answer ≡ true) r
  pub well : (text : List ℕ) (rest : Option (List ℕ)) → Runs turns tries 0 (Some bytes) rest (Some []) (Some text)
      → (r : RunRecord) × TellsWorkersOf turns tries bytes r × AreFine r.status × (text ≡ report_text r None)
  pub each_had_its_turns : (text : List ℕ) (rest : Option (List ℕ))
      → Runs turns tries 0 (Some bytes) rest (Some []) (Some text)
      → (r : RunRecord) × (text ≡ report_text r None)
      × ((history : List Event) × IsAudited r.start (journal_of r.journals) r.end history)
      × ((did : Machine → Counts) → r.counts ≡ map did all_machines
      → (m : Machine) → has_worker m ≡ true → (did m).turns ≡ turns)
  pub appended : (rest old new : Option (List ℕ)) → Runs turns tries 0 (Some bytes) rest old new
      → (r : RunRecord) × TellsWorkersOf turns tries bytes r × AreFine r.status × Appends old new (report_text r None)
  -- no gate keeps a machine out, and none has more turns than it may
  pub no_gate : (r : RunRecord) (did : Machine → Counts) (statuses : Machine → Status)
      → TellsWorkersOf turns tries bytes r → r.counts ≡ map did all_machines → r.status ≡ map statuses all_machines
      → (m : Machine) → has_worker m ≡ true → (statuses m ≢ GateLimit) × ((did m).turns ≤ turns)
  pub takes : (exit : ℕ) (rest old new : Option (List ℕ)) → Runs turns tries exit (Some bytes) rest old new
      → (exit < 2) × TakesAtMost (Some bytes) rest 2097153
  pub failed : (rest old new : Option (List ℕ)) → Runs turns tries 1 (Some bytes) rest old new
      → NotRefused bytes old new → (¬ MemoryRanOut old new) → (¬ WrotePrefix old new (codes "fault spawn\n"))
      → ((r : RunRecord) → TellsWorkersOf turns tries bytes r → ¬ ReportFails r old new) → ⊥
  pub took : (exit : ℕ) (old new : List ℕ) → Runs turns tries exit (Some bytes) (Some []) (Some old) (Some new)
      → length bytes ≤ 2097153

-- an audit found a history, or had no memory
abbrev pub HadMemoryOrNot : Option AuditFault → Type 0
HadMemoryOrNot audit = (audit ≡ None) ⊎ (audit ≡ Some AuditMemory)

pub record ReportsTell (r : RunRecord) (old new : Option (List ℕ)) : Type 0 where
  pub fails : ReportFails r old new
      → ((audit : Option AuditFault) → HadMemoryOrNot audit → Appends old new (report_text r audit)
      → ¬ ((¬ AreFine r.status) ⊎ (audit ≡ Some AuditMemory)))
      → ((audit : Option AuditFault) → HadMemoryOrNot audit → ¬ WrotePrefix old new (report_text r audit)) → ⊥
  pub well : ReportTold Well r old new
      → AreFine r.status × ((history : List Event) × IsAudited r.start (journal_of r.journals) r.end history)
      × Appends old new (report_text r None)
  pub failed : ReportTold Failed r old new
      → ((audit : Option AuditFault) → AuditFinds r audit → IsAmiss r audit → ¬ Appends old new (report_text r audit))
      → ((audit : Option AuditFault) → AuditFinds r audit → ¬ WrotePrefix old new (report_text r audit)) → ⊥
  pub refused : ¬ ReportTold Refused r old new
  pub amiss : (audit : Option AuditFault) → IsAmiss r audit → AreFine r.status → audit ≢ None
  pub written_whole : (audit : Option AuditFault) → AuditFinds r audit → IsAmiss r audit
      → Appends old new (report_text r audit) → ReportTold Failed r old new
  pub written_in_part : (audit : Option AuditFault) → AuditFinds r audit → WrotePrefix old new (report_text r audit)
      → ReportTold Failed r old new
  pub found : (fault : AuditFault) → AuditFinds r (Some fault)
      → IsFault r.start (journal_of r.journals) r.end fault
      × (fault ≢ AuditMemory → HasNoHistory r.start (journal_of r.journals) r.end)

-- which statuses of machines are fine, and when a run counts as one with a stopped machine
pub record FineExamples : Type 0 where
  pub none : AreFine []
  pub three : AreFine (Fine ∷ Fine ∷ Fine ∷ [])
  pub first_worn : ¬ AreFine (Worn ∷ Fine ∷ [])
  pub last_stopped : ¬ AreFine (Fine ∷ Fine ∷ Sensor ∷ [])
  pub each_of_two : (r : RunRecord) → r.status ≡ Fine ∷ Fine ∷ [] → AreFine r.status
  pub not_each : (r : RunRecord) → r.status ≡ Fine ∷ Fine ∷ Worn ∷ [] → ¬ EachIsFine r
  pub not_each_first : (r : RunRecord) → r.status ≡ GateLimit ∷ Fine ∷ [] → ¬ EachIsFine r
  pub stopped : (r : RunRecord) → r.status ≡ Fine ∷ Worn ∷ [] → IsAmiss r None
  pub rejected : (r : RunRecord) → IsAmiss r (Some (Gap 7))
  pub no_memory : IsAuditOf (Some AuditMemory)
  pub no_audit : IsAuditOf None
  pub gap : ¬ IsAuditOf (Some (Gap 7))
  pub end : ¬ IsAuditOf (Some End)

pub record StatusesTell : Type 0 where
  pub fine : FineExamples
  pub replays : (bytes : List ℕ) → ReplaysTell bytes
  pub simulations : (bytes : List ℕ) → SimulationsTell bytes
  pub runs : (turns tries : ℕ) (bytes : List ℕ) → RunsTell turns tries bytes
  pub reports : (r : RunRecord) (old new : Option (List ℕ)) → ReportsTell r old new
