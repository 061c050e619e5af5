-- What is said of a run by six workers.
use Rattle.std.proofs.Common.{◌≡◌, ◌≢◌, inl, inr, List, ℕ, Option, Some, None, Ok, Err, IfSome, map, sym, subst}
use Rattle.cell_types.specs.Journals.{journal_of}
use Rattle.cell_rules.specs.Names.{ModelState, IsAudited}
use Rattle.text_io.specs.Output.{WrotePrefix}
use Rattle.cell_parts.specs.Axes.{CellScales}
use Rattle.cell_sensors.specs.Curve.{pairs_of}
use Rattle.cell_plant.specs.Machines.{CellGauges, on_curves}
use Rattle.cell_notes.specs.declared.run_record.RunRecord.{RunRecord}
use Rattle.cell_config.specs.Configured.{Says, in_order, shown}
use Rattle.cell_config.specs.Settings.{settings_of}
use Rattle.cell_config.specs.ConfigWords.{config_fault_text}
use Rattle.cell_config.specs.declared.configuration.Config.{Config}
use Rattle.cell_config.specs.declared.fault.ConfigFault.{ConfigFault}
use Rattle.cell_threads.specs.Faults.{run_fault_text}
use Rattle.cell_threads.specs.declared.fault.RunFault.{RunFault}
use Rattle.cell_threads.specs.declared.fault.RunFault.TheVariants.{Tries, Memory, Spawn}
use Rattle.program_shell.specs.declared.exit.Exit.TheVariants.{Well, Failed}
use Rattle.cell_app.specs.Reported.{ReportTold}
use Rattle.cell_app.specs.Served.{RunFails, TellsWorkers, TellsWorkersOf, WasRun, fault_line}
use Rattle.cell_app.proofs.AuditLemmas.{report_fails}

-- the history of a run is one that an audit of its journals looks for
pub audited_work : (c : CellScales) (gives : CellGauges) (opening : ModelState) (tries turns : ℕ) (r : RunRecord) (k : TellsWorkers c gives opening tries turns r) → IsAudited r.start (journal_of r.journals) r.end k.history
audited_work c gives opening tries turns r k = subst (λ s. IsAudited s (journal_of r.journals) r.end k.history) (sym k.start) k.audited

-- what the gauges on the curves of a configuration give
abbrev given : Config → CellGauges
given config = on_curves (map pairs_of config.curves)

module _ (turns tries : ℕ) (old new : Option (List ℕ)) where
  pub run_config_refused : (o : Option (List ℕ)) (fault : ConfigFault) → IfSome o (λ bytes. Says bytes (Err fault)) → WrotePrefix old new (fault_line (config_fault_text fault))
      → IfSome o (λ bytes. RunFails turns tries bytes old new)
  run_config_refused None fault k w = tt
  run_config_refused (Some bytes) fault k w = inl (fault, (k, w))

  -- the tries were in range, so memory ran out or a worker couldn't be started
  pub run_refused : (o : Option (List ℕ)) (fault : RunFault) → fault ≢ Tries → WrotePrefix old new (fault_line (run_fault_text fault)) → IfSome o (λ bytes. RunFails turns tries bytes old new)
  run_refused None fault other w = tt
  run_refused (Some bytes) Tries other w = absurd (other (λ i. Tries))
  run_refused (Some bytes) Memory other w = inr (inl w)
  run_refused (Some bytes) Spawn other w = inr (inr (inl w))

  tells_of : (bytes : List ℕ) (config : Config) (r : RunRecord) (c : CellScales) → settings_of bytes ≡ Ok (shown config) → config.points ≡ in_order c → TellsWorkers c (given config) config.start tries turns r
      → TellsWorkersOf turns tries bytes r
  tells_of bytes config r c k points run = record { settings = shown config; said = k; scales = c; points = points; run = run }

  pub run_well : (o : Option (List ℕ)) (config : Config) (r : RunRecord) (c : CellScales) → IfSome o (λ bytes. Says bytes (Ok config)) → config.points ≡ in_order c → TellsWorkers c (given config) config.start tries turns r
      → ReportTold Well r old new → WasRun turns tries o old new
  run_well None config r c k points run told = tt
  run_well (Some bytes) config r c k points run told = (r, (tells_of bytes config r c k points run, (told.0, told.1.1)))

  pub run_failed : (o : Option (List ℕ)) (config : Config) (r : RunRecord) (c : CellScales) → IfSome o (λ bytes. Says bytes (Ok config)) → config.points ≡ in_order c → TellsWorkers c (given config) config.start tries turns r
      → ReportTold Failed r old new → IfSome o (λ bytes. RunFails turns tries bytes old new)
  run_failed None config r c k points run told = tt
  run_failed (Some bytes) config r c k points run told =
      inr (inr (inr (r, (tells_of bytes config r c k points run, report_fails r run.history (audited_work c (given config) config.start tries turns r run) old new told))))
