-- Lines of reports, whole: of a lift between two floors, and of two gates.
use Rattle.std.specs.Prelude.{◌≡◌, ℕ, Bool, true, false, List, [], ◌∷◌, ◌++◌, codes, Option, IsTrue}
use Rattle.plan_types.specs.Examples.{lift_table}
use Rattle.plan_word.specs.Layout.{counts_of}
use Rattle.plan_word.specs.declared.layout.Field.TheVariants.{Stamp, Stop}
use Rattle.plan_header.specs.HeaderExamples.{gates, inlet, lift, lift_machines}
use Rattle.plan_rules.specs.declared.state.State.{State}
use Rattle.plan_text.specs.Names.{Text}
use Rattle.plan_document.specs.declared.resolving.ProgrammedPlan.{ProgrammedPlan}
use Rattle.plan_drives.specs.declared.undriven.Undriven.{Undriven}
use Rattle.plan_app.specs.Hazards.{TellsReport, whole_report}
use Rattle.plan_app.specs.Reports as report
use Rattle.plan_app.specs.Rows.{HasEveryRow, rows_line}
use Rattle.plan_app.specs.declared.hazards.Finding.{Finding}

-- a zone has two bits to five, a place one, the stamp twenty, the stop one
pub record ReportLines : Type 0 where
  pub machines : report.names_line (codes "machine") lift_machines ≡ codes "3 machines: lift low high\n"
  pub one_zone : report.names_line (codes "zone") (codes "upper" ∷ []) ≡ codes "1 zone: upper\n"
  pub no_place : report.names_line (codes "place") [] ≡ codes "0 places\n"
  pub width : report.width_line (counts_of lift_table) ≡ codes "a word of 34 bits\n"
  pub lower : report.zone_line lift 0 ≡ codes "bit 0, 5 bits: zone lower\n"
  pub upper : report.zone_line lift 1 ≡ codes "bit 5, 5 bits: zone upper\n"
  pub no_zone : report.zone_line lift 2 ≡ []
  pub inlet : report.zone_line inlet 0 ≡ codes "bit 0, 4 bits: zone inlet\n"
  pub cabin : report.place_line lift 0 ≡ codes "bit 10, 1 bit: place cabin\n"
  pub loft : report.place_line lift 2 ≡ codes "bit 12, 1 bit: place loft\n"
  pub no_place_more : report.place_line lift 3 ≡ []
  pub stamp : report.field_line (counts_of lift_table) Stamp (codes "stamp") ≡ codes "bit 13, 20 bits: stamp\n"
  pub stop : report.field_line (counts_of lift_table) Stop (codes "stop") ≡ codes "bit 33, 1 bit: stop\n"

-- the report of the gates
abbrev pub gates_report : Text
gates_report =
    codes "3 machines: lake lock sea\n" ++ codes "2 zones: east west\n"
    ++ codes "4 places: first second quay pier\n" ++ codes "2 poses: travel tide\n"
    ++ codes "a word of 29 bits\n"
    ++ codes "bit 0, 2 bits: zone east\n" ++ codes "bit 2, 2 bits: zone west\n"
    ++ codes "bit 4, 1 bit: place first\n" ++ codes "bit 5, 1 bit: place second\n"
    ++ codes "bit 6, 1 bit: place quay\n" ++ codes "bit 7, 1 bit: place pier\n"
    ++ codes "bit 8, 20 bits: stamp\n" ++ codes "bit 28, 1 bit: stop\n"

pub record WholeReports : Type 0 where
  pub report : report.report_text gates ≡ gates_report
  -- with what is said of its rows; of a plan without motors nothing follows
  pub complete : (plan : ProgrammedPlan) (start : Option State) (drives : List (Option Undriven))
      (findings : List Finding) → plan.named ≡ gates → plan.steps.items ≡ [] → plan.motors.names ≡ []
      → whole_report plan start true drives findings
      ≡ gates_report ++ codes "rows: each call that is done has its row\n"
  pub unknown : (plan : ProgrammedPlan) (start : Option State) (drives : List (Option Undriven))
      (findings : List Finding) → plan.named ≡ gates → plan.steps.items ≡ [] → plan.motors.names ≡ []
      → whole_report plan start false drives findings
      ≡ gates_report ++ codes "rows: some calls that are done may have none, and are answered more slowly\n"

-- that each call that is done has its row is said only of a plan where that is so
pub record RowsAreTold : Type 0 where
  pub complete : rows_line true ≡ codes "rows: each call that is done has its row\n"
  pub unknown : rows_line false
      ≡ codes "rows: some calls that are done may have none, and are answered more slowly\n"
  pub meant : (most : ℕ) (plan : ProgrammedPlan) (start : Option State) (kept : Bool) (text : Text)
      → TellsReport most plan start kept text → (every : Bool) × (IsTrue every → HasEveryRow plan.named.plan)
      × (drives : List (Option Undriven)) × (findings : List Finding)
      × (text ≡ whole_report plan start every drives findings)
