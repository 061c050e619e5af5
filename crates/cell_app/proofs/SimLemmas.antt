-- What is said of a simulation.
use Rattle.std.proofs.Common.{◌≡◌, inl, inr, List, ℕ, Option, Some, None, Ok, Err, IfSome, map, sym, ap, ◌∙◌, subst}
use Rattle.cell_types.specs.Journals.{journal_of}
use Rattle.cell_rules.specs.Names.{ModelState, event_by, EndsIn, IsAudited}
use Rattle.cell_rules.proofs.lemmas.Notes.{events_of_noted}
use Rattle.text_io.specs.Output.{WrotePrefix}
use Rattle.cell_parts.specs.Axes.{CellScales}
use Rattle.cell_sensors.specs.Curve.{pairs_of}
use Rattle.cell_plant.specs.Names.{TellsRun, CellGauges, on_curves, events_in}
use Rattle.cell_notes.specs.declared.run_record.RunRecord.{RunRecord}
use Rattle.cell_notes.specs.declared.schedule.Turn.{Turn}
use Rattle.cell_config.specs.Configured.{Says, in_order, shown}
use Rattle.cell_config.specs.Settings.{settings_of}
use Rattle.cell_config.specs.ConfigWords.{config_fault_text}
use Rattle.cell_config.specs.declared.configuration.Config.{Config}
use Rattle.cell_config.specs.declared.fault.ConfigFault.{ConfigFault}
use Rattle.program_shell.specs.declared.exit.Exit.TheVariants.{Well, Failed}
use Rattle.cell_app.specs.Reported.{ReportTold}
use Rattle.cell_app.specs.Served.{HasOneReport, SimFails, TellsOneRunOf, TellsRunOf, WasSimulated, fault_line}
use Rattle.cell_app.proofs.AuditLemmas.{report_fails}

-- the history of a run is one that an audit of its journals looks for
audited_run : (c : CellScales) (gives : CellGauges) (opening : ModelState) (turns : List Turn) (r : RunRecord) (t : TellsRun c gives opening turns r) → IsAudited r.start (journal_of r.journals) r.end (events_in t.steps)
audited_run c gives opening turns r t = subst (λ s. IsAudited s (journal_of r.journals) r.end (events_in t.steps)) (sym t.told.start) (record {
  legal = t.legal;
  own = λ m. sym (events_of_noted opening (events_in t.steps) m) ∙ ap (map (event_by m)) (sym (t.told.journals m));
  noted = λ m. sym (t.told.journals m);
  ends = subst (EndsIn _) (sym t.told.end) (sym t.reached);
})

-- what the gauges on the curves of a configuration give
abbrev given : Config → CellGauges
given config = on_curves (map pairs_of config.curves)

module _ (one : (bytes : List ℕ) (r : RunRecord) → TellsRunOf bytes r → HasOneReport bytes r) (old new : Option (List ℕ)) where
  pub config_refused : (o : Option (List ℕ)) (fault : ConfigFault) → IfSome o (λ bytes. Says bytes (Err fault)) → WrotePrefix old new (fault_line (config_fault_text fault)) → IfSome o (λ bytes. SimFails bytes old new)
  config_refused None fault k w = tt
  config_refused (Some bytes) fault k w = inl (fault, (k, w))

  tells_of : (bytes : List ℕ) (config : Config) (r : RunRecord) (c : CellScales) → settings_of bytes ≡ Ok (shown config) → config.points ≡ in_order c → TellsRun c (given config) config.start config.schedule.items r → TellsOneRunOf bytes r
  tells_of bytes config r c k points run =
      let tells : TellsRunOf bytes r = record { settings = shown config; said = k; scales = c; points = points; run = run } in
      (tells, one bytes r tells)

  pub sim_well : (o : Option (List ℕ)) (config : Config) (r : RunRecord) (c : CellScales) → IfSome o (λ bytes. Says bytes (Ok config)) → config.points ≡ in_order c → TellsRun c (given config) config.start config.schedule.items r
      → ReportTold Well r old new → WasSimulated o old new
  sim_well None config r c k points run told = tt
  sim_well (Some bytes) config r c k points run told = (r, (tells_of bytes config r c k points run, (told.0, told.1.1)))

  pub sim_failed : (o : Option (List ℕ)) (config : Config) (r : RunRecord) (c : CellScales) → IfSome o (λ bytes. Says bytes (Ok config)) → config.points ≡ in_order c → TellsRun c (given config) config.start config.schedule.items r
      → ReportTold Failed r old new → IfSome o (λ bytes. SimFails bytes old new)
  sim_failed None config r c k points run told = tt
  sim_failed (Some bytes) config r c k points run told = inr (inr (r, (tells_of bytes config r c k points run, report_fails r (events_in run.steps) (audited_run c (given config) config.start config.schedule.items r run) old new told)))
