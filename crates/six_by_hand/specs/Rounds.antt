-- The rounds that an audit is handed.
use Rattle.std.specs.Prelude.{◌≡◌, ℕ, ⊤, List, Option, Some, None, Result, Ok, Err}
use Rattle.cell_rules.specs.Types.{Event, journal_of}
use Rattle.cell_rules.specs.Names.{ModelState, IsAudited, restamped}
use Rattle.cell_report.specs.declared.audit_faults.AuditFault.{AuditFault}
use Rattle.cell_report.specs.declared.audit_faults.AuditFault.TheVariants.{Memory}
use Rattle.cell_renewal.specs.declared.rounds.Round.{Round}

-- the interlock opens with the state that the round before left, if there was one, but for the stamp
abbrev pub OpensWith : Option ModelState → ModelState → Type 0
OpensWith None opening = ⊤
OpensWith (Some left) opening = (stamp : ℕ) × (opening ≡ restamped left stamp)

-- The round goes on from what the one before it left. A legal history leads from its start to its end, and each journal
-- is what its machine noted of it.
pub record IsNext (left : Option ModelState) (round : Round) : Type 0 where
  pub opens : OpensWith left round.start
  pub history : List Event
  pub explained : IsAudited round.start (journal_of round.journals) (Some round.end) history

-- The sink keeps the state that the round left. It fails only if memory runs out.
abbrev pub IsTaken : Round → Result (Unit {0}) AuditFault → Option ModelState → Type 0
IsTaken round (Ok done) left = left ≡ Some round.end
IsTaken round (Err fault) left = fault ≡ Memory
