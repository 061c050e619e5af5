-- Laws of audits: the journals alone decide the order of their entries, and why they are refused.
use Rattle.std.specs.Prelude.{◌≡◌, ◌≢◌, List, Option}
use Rattle.cell_rules.specs.Types.{Machine, Entry}
use Rattle.cell_rules.specs.ModelState.{ModelState}
use Rattle.cell_report.specs.declared.ordered.Noted.{Noted}
use Rattle.cell_report.specs.declared.audit_faults.AuditFault.{AuditFault}
use Rattle.cell_report.specs.declared.audit_faults.AuditFault.TheVariants.{Memory}
use Rattle.cell_report.specs.Order.{InOrder}
use Rattle.cell_report.specs.AuditFaults.{IsFault}

-- entries have only one order
abbrev pub OrderIsOne : Type 0
OrderIsOne = (all one other : List Noted) → InOrder all one → InOrder all other → one ≡ other

-- journals have at most one fault, a fault of memory apart
abbrev pub FaultIsOne : Type 0
FaultIsOne =
    (start : ModelState) (journals : Machine → List Entry) (end : Option ModelState) (one other : AuditFault)
    → IsFault start journals end one → IsFault start journals end other
    → one ≢ Memory → other ≢ Memory → one ≡ other
