-- What is said of a run that was told, and of a recording.
use Rattle.std.proofs.Common.{◌≡◌, ◌≢◌, ◌≤◌, Bool, true, false, inl, inr, ℕ, IsTrue, ◌↔◌, List, length, Option, Some, None, Ok, Err, IfSome, map, sym, subst, ◌∙◌}
use Rattle.std.specs.Io.KnownBytes.{Appends}
use Rattle.cell_rules.specs.Types.{Event, journal_of}
use Rattle.cell_rules.specs.Names.{ModelState, IsStartState, IsAudited}
use Rattle.text_io.specs.Output.{WrotePrefix}
use Rattle.cell_parts.specs.Axes.{CellScales}
use Rattle.cell_sensors.specs.Curve.{pairs_of}
use Rattle.cell_plant.specs.Machines.{CellGauges, on_curves}
use Rattle.cell_notes.specs.declared.run_record.RunRecord.{RunRecord}
use Rattle.csv_rows.specs.ScriptEnd.{max_records}
use Rattle.history_app.specs.Scripts.{script_of}
use Rattle.cell_config.specs.Configured.{Says, in_order, shown}
use Rattle.cell_config.specs.Settings.{settings_of}
use Rattle.cell_config.specs.ConfigWords.{config_fault_text}
use Rattle.cell_config.specs.declared.configuration.Config.{Config}
use Rattle.cell_config.specs.declared.fault.ConfigFault.{ConfigFault}
use Rattle.cell_threads.specs.Faults.{run_fault_text}
use Rattle.cell_threads.specs.declared.fault.RunFault.{RunFault}
use Rattle.cell_threads.specs.declared.fault.RunFault.TheVariants.{Tries, Memory, Spawn}
use Rattle.program_shell.specs.declared.exit.Exit.{Exit}
use Rattle.program_shell.specs.declared.exit.Exit.TheVariants.{Well, Failed, Refused}
use Rattle.cell_app.specs.Reported.{AreFine}
use Rattle.cell_app.specs.Served.{TellsWorkers}
use Rattle.program_shell.specs.Faults.{fault_line}
use Rattle.history_app.specs.Recorded.{IsHistoryOf, IsTold, IsWritten, RecordingFails, TellsPacedRun, WasRecorded}

-- a run whose script was written, whole or in part
pub told_by_writing : (r : RunRecord) (fine : Bool) (history : List Event) (script : List ℕ) (e : Exit) (old new : Option (List ℕ)) → IsHistoryOf r history → length history ≤ max_records → script ≡ script_of r.start history
    → IsTrue fine ↔ AreFine r.status → IsWritten script fine e old new → IsTold r e old new
told_by_writing r fine history script Well old new is few text k w = (k.0 w.0, record { history = history; is = is; fits = few; written = subst (Appends old new) text w.1 })
told_by_writing r fine history script Failed old new is few text k (inl w) =
    inl ((λ all. let lie : true ≡ false = sym (k.1 all) ∙ w.0 in cc), record { history = history; is = is; fits = few; written = subst (Appends old new) text w.1 })
told_by_writing r fine history script Failed old new is few text k (inr w) = inr (inl (history, (is, subst (WrotePrefix old new) text w)))
told_by_writing r fine history script Refused old new is few text k w = absurd w

-- what the audit has found is a history of the run
pub history_of : (r : RunRecord) (end : Option ModelState) (history : List Event) → end ≡ r.end → IsAudited r.start (journal_of r.journals) end history → IsHistoryOf r history
history_of r end history e k = subst (λ o. IsAudited r.start (journal_of r.journals) o history) e k

-- a record of a run by six workers tells its history
pub some_history : (c : CellScales) (gives : CellGauges) (opening : ModelState) (tries turns : ℕ) (r : RunRecord) → TellsWorkers c gives opening tries turns r → (history : List Event) × IsHistoryOf r history
some_history c gives opening tries turns r k = (k.history, subst (λ s. IsAudited s (journal_of r.journals) r.end k.history) (sym k.start) k.audited)

-- what the gauges on the curves of a configuration give
abbrev given : Config → CellGauges
given config = on_curves (map pairs_of config.curves)

module _ (turns tries : ℕ) (old new : Option (List ℕ)) where
  pub config_refused : (o : Option (List ℕ)) (fault : ConfigFault) → IfSome o (λ bytes. Says bytes (Err fault)) → WrotePrefix old new (fault_line (config_fault_text fault))
      → IfSome o (λ bytes. RecordingFails turns tries bytes old new)
  config_refused None fault k w = tt
  config_refused (Some bytes) fault k w = inl (fault, (k, w))

  -- the tries were in range, so memory ran out or a thread couldn't be started
  pub run_refused : (o : Option (List ℕ)) (fault : RunFault) → fault ≢ Tries → WrotePrefix old new (fault_line (run_fault_text fault)) → IfSome o (λ bytes. RecordingFails turns tries bytes old new)
  run_refused None fault other w = tt
  run_refused (Some bytes) Tries other w = absurd (other (λ i. Tries))
  run_refused (Some bytes) Memory other w = inr (inl w)
  run_refused (Some bytes) Spawn other w = inr (inr (inl w))

  tells : (bytes : List ℕ) (config : Config) (r : RunRecord) (c : CellScales) → settings_of bytes ≡ Ok (shown config) → config.points ≡ in_order c → IsStartState config.start → TellsWorkers c (given config) config.start tries turns r
      → TellsPacedRun turns tries bytes r
  tells bytes config r c k points start run = record { run = record { settings = shown config; said = k; scales = c; points = points; run = run }; start = subst IsStartState (sym run.start) start }

  module _ (config : Config) (r : RunRecord) (c : CellScales) (points : config.points ≡ in_order c) (start : IsStartState config.start) (run : TellsWorkers c (given config) config.start tries turns r) where
    pub recorded_well : (o : Option (List ℕ)) → IfSome o (λ bytes. Says bytes (Ok config)) → IsTold r Well old new → WasRecorded turns tries o old new
    recorded_well None k told = tt
    recorded_well (Some bytes) k told = (r, (tells bytes config r c k points start run, told))

    pub recorded_failed : (o : Option (List ℕ)) → IfSome o (λ bytes. Says bytes (Ok config)) → IsTold r Failed old new → IfSome o (λ bytes. RecordingFails turns tries bytes old new)
    recorded_failed None k told = tt
    recorded_failed (Some bytes) k told = inr (inr (inr (r, (tells bytes config r c k points start run, told))))
