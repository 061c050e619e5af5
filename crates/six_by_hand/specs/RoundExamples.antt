-- What a round that an audit is handed has to be, in other words.
use Rattle.std.specs.Prelude.{◌≡◌, ◌≢◌, ℕ, List, Option, Some, None, Ok, Err}
use Rattle.cell_rules.specs.Types.{Event, journal_of}
use Rattle.cell_rules.specs.Names.{ModelState, IsAudited, restamped}
use Rattle.cell_report.specs.declared.audit_faults.AuditFault.{AuditFault}
use Rattle.cell_report.specs.declared.audit_faults.AuditFault.TheVariants.{Memory}
use Rattle.cell_renewal.specs.declared.rounds.Round.{Round}
use Rattle.six_by_hand.specs.Rounds.{IsNext, IsTaken}

pub record RoundsAreMet : Type 0 where
  pub opens : (state : ModelState) (round : Round) → IsNext (Some state) round
      → (stamp : ℕ) × (round.start ≡ restamped state stamp)
  pub explained : (left : Option ModelState) (round : Round) → IsNext left round
      → (history : List Event) × IsAudited round.start (journal_of round.journals) (Some round.end) history
  -- and nothing more: the first round may open with any state
  pub first : (round : Round) (history : List Event)
      → IsAudited round.start (journal_of round.journals) (Some round.end) history → IsNext None round
  pub next : (left : ModelState) (stamp : ℕ) (round : Round) (history : List Event) → round.start ≡ restamped left stamp
      → IsAudited round.start (journal_of round.journals) (Some round.end) history → IsNext (Some left) round
  pub keeps : (round : Round) → IsTaken round (Ok tt) (Some round.end)
  pub fails : (round : Round) (left : Option ModelState) → IsTaken round (Err Memory) left
  pub kept : (round : Round) (left : Option ModelState) → IsTaken round (Ok tt) left → left ≡ Some round.end
  pub not_kept : (round : Round) → ¬ IsTaken round (Ok tt) None
  pub fault : (round : Round) (fault : AuditFault) (left : Option ModelState) → fault ≢ Memory
      → ¬ IsTaken round (Err fault) left
