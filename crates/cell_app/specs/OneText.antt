-- By curves, a simulation that goes well has one text.
use Rattle.std.specs.Prelude.{◌≡◌, ℕ, List, [], Option, Some}
use Rattle.cell_sensors.specs.Curve.{Pair}
use Rattle.cell_rules.specs.ModelState.{ModelState}
use Rattle.cell_notes.specs.declared.run_record.RunRecord.{RunRecord}
use Rattle.cell_notes.specs.declared.schedule.Turn.{Turn}
use Rattle.cell_parts.specs.Axes.{CellScales, AreCellScales}
use Rattle.cell_plant.specs.Names.{TellsRun, GiveOne, on_curves}
use Rattle.cell_report.specs.Report.{report_text}
use Rattle.cell_report.specs.declared.audit_faults.AuditFault.{AuditFault}
use Rattle.cell_app.specs.Reported.{AreFine}
use Rattle.cell_app.specs.Served.{HasOneReport, TellsRunOf, WasSimulated}

-- Two records of runs of one schedule from one opening by the same curves, in which no machine was stopped, are
-- reported by one text. So a simulation that goes well doesn't depend on memory.
abbrev pub OneByCurves : Type 0
OneByCurves =
    (c : CellScales) (curves : List (List Pair)) (opening : ModelState) (turns : List Turn) (r s : RunRecord)
    → AreCellScales c → GiveOne (on_curves curves)
    → TellsRun c (on_curves curves) opening turns r → TellsRun c (on_curves curves) opening turns s
    → AreFine r.status → AreFine s.status → (audit : Option AuditFault) → report_text s audit ≡ report_text r audit

-- What a configuration says is enough for that: a simulation with status 0 writes a text that the bytes alone decide.
pub record ReportsAreOne : Type 0 where
  pub curves : OneByCurves
  pub report : (bytes : List ℕ) (r : RunRecord) → TellsRunOf bytes r → HasOneReport bytes r
  pub text : (bytes text other : List ℕ) → WasSimulated (Some bytes) (Some []) (Some text)
      → WasSimulated (Some bytes) (Some []) (Some other) → other ≡ text
