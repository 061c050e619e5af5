-- Laws of runs: the statements.
use Rattle.std.specs.Prelude.{◌≡◌, ◌≢◌, ℕ, true, List, [], ◌∷◌, ◌++◌, codes, map, Option, Some, None}
use Rattle.cell_rules.specs.Types.{Machine, Event, all_machines, journal_of}
use Rattle.cell_rules.specs.Names.{ModelState, IsAudited}
use Rattle.cell_notes.specs.declared.counts.Counts.{Counts}
use Rattle.cell_notes.specs.declared.run_record.RunRecord.{RunRecord}
use Rattle.cell_notes.specs.declared.status.Status.{Status}
use Rattle.cell_notes.specs.declared.status.Status.TheVariants.{Fine, GateLimit}
use Rattle.cell_parts.specs.Axes.{CellScales}
use Rattle.cell_plant.specs.Machines.{any_near}
use Rattle.cell_config.specs.ConfigWords.{config_fault_text}
use Rattle.cell_config.specs.declared.fault.ConfigFault.TheVariants.{Missing, Range, Read}
use Rattle.csv_rows.specs.declared.script_end.Outcome.TheVariants.{Clean}
use Rattle.cell_replay.specs.Script.{script_outcome, script_text}
use Rattle.cell_report.specs.Report.{report_text}
use Rattle.cell_threads.specs.Faults.{run_fault_text}
use Rattle.cell_threads.specs.declared.fault.RunFault.TheVariants.{Memory, Spawn}
use Rattle.cell_threads.specs.Laws.{HadTurns}
use Rattle.cell_workers.specs.Records.{has_worker}
use Rattle.program_shell.specs.declared.exit.Exit.TheVariants.{Well}
use Rattle.cell_app.specs.Reported.{ReportTold}
use Rattle.cell_app.specs.Served.{TellsRunOf, TellsWorkers, TellsWorkersOf, WasReplayed, WasRun, WasSimulated}
use Rattle.cell_app.specs.Served.{fault_line}

-- in a run by six workers each machine takes its turns, and no gate keeps it out
pub record TurnsAreTold : Type 0 where
  pub turns : (c : CellScales) (opening : ModelState) (tries limit : ℕ) (r : RunRecord) (did : Machine → Counts)
      (statuses : Machine → Status)
      → TellsWorkers c (any_near c) opening tries limit r → r.counts ≡ map did all_machines
      → r.status ≡ map statuses all_machines
      → (m : Machine) → has_worker m ≡ true
      → HadTurns limit (λ turn. true) (did m) (statuses m) (journal_of r.journals m) × (statuses m ≢ GateLimit)

-- every machine is fine
abbrev pub EachIsFine : RunRecord → Type 0
EachIsFine r = (before after : List Status) (s : Status) → r.status ≡ before ++ s ∷ after → s ≡ Fine

-- every machine is fine, and a history gives the journals and leads to the end
abbrev pub IsWell : RunRecord → Type 0
IsWell r = EachIsFine r × ((history : List Event) × IsAudited r.start (journal_of r.journals) r.end history)

-- each machine that works had this number of turns
abbrev pub EachHadTurns : ℕ → RunRecord → Type 0
EachHadTurns turns r =
    (did : Machine → Counts) → r.counts ≡ map did all_machines → (m : Machine) → has_worker m ≡ true
    → (did m).turns ≡ turns

-- Status 0, by the text that was written: of a clean script; or the report of a simulation or a run in which every
-- machine is fine, with `audit ok`. In a run each machine had all its turns, and a history gives the journals.
pub record StatusZeroIsWell : Type 0 where
  pub reported : (r : RunRecord) (old new : Option (List ℕ)) → ReportTold Well r old new → IsWell r
  pub replayed : (bytes text : List ℕ) → WasReplayed (Some bytes) (Some []) (Some text)
      → (text ≡ script_text bytes) × (script_outcome bytes ≡ Clean)
  pub simulated : (bytes text : List ℕ) → WasSimulated (Some bytes) (Some []) (Some text)
      → (r : RunRecord) × TellsRunOf bytes r × (text ≡ report_text r None) × EachIsFine r
  pub ran : (turns tries : ℕ) (bytes text : List ℕ) → WasRun turns tries (Some bytes) (Some []) (Some text)
      → (r : RunRecord) × TellsWorkersOf turns tries bytes r × (text ≡ report_text r None) × IsWell r
      × EachHadTurns turns r

-- lines of faults
pub record FaultLinesAreMet : Type 0 where
  pub memory : fault_line (codes "memory") ≡ codes "fault memory\n"
  pub missing : fault_line (config_fault_text Missing) ≡ codes "fault config missing\n"
  pub range : fault_line (config_fault_text Range) ≡ codes "fault config range\n"
  pub unread : fault_line (config_fault_text Read) ≡ codes "fault read\n"
  pub no_room : fault_line (run_fault_text Memory) ≡ codes "fault memory\n"
  pub spawn : fault_line (run_fault_text Spawn) ≡ codes "fault spawn\n"
