-- What is said of a run that was audited and reported.
use Rattle.std.specs.Prelude.{◌≡◌, ◌≢◌, ℕ, List, All, ◌⊎◌, Option, Some, None}
use Rattle.std.specs.Io.KnownBytes.{Appends}
use Rattle.cell_rules.specs.Types.{Event, journal_of}
use Rattle.text_io.specs.Output.{WrotePrefix}
use Rattle.cell_notes.specs.declared.run_record.RunRecord.{RunRecord}
use Rattle.cell_notes.specs.declared.status.Status.{Status}
use Rattle.cell_notes.specs.declared.status.Status.TheVariants.{Fine}
use Rattle.program_shell.specs.declared.exit.Exit.{Exit}
use Rattle.program_shell.specs.declared.exit.Exit.TheVariants.{Well, Failed, Refused}
use Rattle.cell_rules.specs.Audited.{HasNoHistory, IsAudited}
use Rattle.cell_report.specs.AuditFaults.{IsFault}
use Rattle.cell_report.specs.Report.{report_text}
use Rattle.cell_report.specs.declared.audit_faults.AuditFault.{AuditFault}
use Rattle.cell_report.specs.declared.audit_faults.AuditFault.TheVariants.{Memory as AuditMemory}

-- no machine was stopped
abbrev pub AreFine : List Status → Type 0
AreFine status = All (λ s. s ≡ Fine) status

-- what an audit of a record finds: a legal history that gives its journals and leads to its end; or the first fault,
-- and then, unless memory ran out, there is no such history
abbrev pub AuditFinds : RunRecord → Option AuditFault → Type 0
AuditFinds r None = (history : List Event) × IsAudited r.start (journal_of r.journals) r.end history
AuditFinds r (Some fault) =
    IsFault r.start (journal_of r.journals) r.end fault
    × (fault ≢ AuditMemory → HasNoHistory r.start (journal_of r.journals) r.end)

-- a machine was stopped, or the audit rejected the run
abbrev pub IsAmiss : RunRecord → Option AuditFault → Type 0
IsAmiss r audit = (¬ AreFine r.status) ⊎ ((fault : AuditFault) × (audit ≡ Some fault))

-- Well: no machine was stopped, and the report was written, with the line that the audit found a history. Failed:
-- a machine was stopped or the audit rejected the run, and the report was written; or only a prefix of the report was.
abbrev pub ReportTold : Exit → RunRecord → Option (List ℕ) → Option (List ℕ) → Type 0
ReportTold Well r old new = AreFine r.status × (AuditFinds r None × Appends old new (report_text r None))
ReportTold Failed r old new =
    (audit : Option AuditFault) × (AuditFinds r audit
    × ((Appends old new (report_text r audit) × IsAmiss r audit) ⊎ WrotePrefix old new (report_text r audit)))
ReportTold Refused r old new = ⊥
