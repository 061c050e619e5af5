-- What an audit finds of a run that a history gives.
use Rattle.std.proofs.Common.{◌≡◌, ◌⊎◌, inl, inr, List, ℕ, Option, Some, None, refl, ap, ⊎_elim}
use Rattle.cell_rules.specs.Types.{Event, journal_of}
use Rattle.cell_notes.specs.declared.run_record.RunRecord.{RunRecord}
use Rattle.cell_rules.specs.Audited.{IsAudited}
use Rattle.cell_report.specs.declared.audit_faults.AuditFault.{AuditFault}
use Rattle.cell_report.specs.declared.audit_faults.AuditFault.TheVariants.{Twice, Gap, Differs, End, Memory}
use Rattle.program_shell.specs.declared.exit.Exit.TheVariants.{Failed}
use Rattle.cell_app.specs.Reported.{AreFine, AuditFinds, IsAmiss, ReportTold}
use Rattle.cell_app.specs.Served.{IsAuditOf, ReportFails}

module _ (r : RunRecord) (history : List Event) (k : IsAudited r.start (journal_of r.journals) r.end history) where
  -- the audit rejects it only if memory runs out
  audit_is : (audit : Option AuditFault) → AuditFinds r audit → IsAuditOf audit
  audit_is None found = tt
  audit_is (Some (Twice s)) found = absurd (found.1 (λ e. cc) history k)
  audit_is (Some (Gap s)) found = absurd (found.1 (λ e. cc) history k)
  audit_is (Some (Differs s)) found = absurd (found.1 (λ e. cc) history k)
  audit_is (Some End) found = absurd (found.1 (λ e. cc) history k)
  audit_is (Some Memory) found = refl

  -- what is wrong if the audit had enough memory
  amiss_is : (audit : Option AuditFault) → IsAuditOf audit → IsAmiss r audit → (¬ AreFine r.status) ⊎ (audit ≡ Some Memory)
  amiss_is None found (inl h) = inl h
  amiss_is None found (inr h) = cc
  amiss_is (Some f) found h = inr (ap (λ x. Some x) found)

  pub report_fails : (old new : Option (List ℕ)) → ReportTold Failed r old new → ReportFails r old new
  report_fails old new told =
      let audited = audit_is told.0 told.1.0 in
      (told.0, (audited, ⊎_elim (λ h. inl (h.0, amiss_is told.0 audited h.1)) (λ w. inr w) told.1.1))
