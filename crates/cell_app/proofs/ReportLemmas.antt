-- What the report of a run says.
use Rattle.std.proofs.Common.{◌≡◌, ◌≢◌, Bool, true, false, inl, inr, ℕ, IsTrue, ◌↔◌, List, Option, Some, None, IfSome, refl, subst}
use Rattle.std.specs.Io.KnownBytes.{Appends}
use Rattle.cell_rules.specs.Types.{Event, journal_of}
use Rattle.cell_rules.specs.Names.{ModelState, IsAudited, HasNoHistory}
use Rattle.cell_report.specs.AuditFaults.{IsFault}
use Rattle.cell_report.specs.Order.{AreInOrder}
use Rattle.cell_report.specs.Report.{report_text}
use Rattle.cell_report.specs.declared.audit_faults.AuditFault.{AuditFault}
use Rattle.cell_report.specs.declared.audit_faults.AuditFault.TheVariants.{Memory}
use Rattle.cell_notes.specs.declared.run_record.RunRecord.{RunRecord}
use Rattle.program_shell.specs.declared.exit.Exit.TheVariants.{Well, Failed}
use Rattle.cell_app.specs.Reported.{AreFine, AuditFinds, IsAmiss, ReportTold}

-- what `find_fault` answers of a record
pub fault_found : (found : Option AuditFault) (r : RunRecord) (end : Option ModelState) → end ≡ r.end
    → (found ≡ None → (history : List Event) × IsAudited r.start (journal_of r.journals) end history × AreInOrder (journal_of r.journals) history)
    → IfSome found (λ f. IsFault r.start (journal_of r.journals) end f) → IfSome found (λ f. f ≢ Memory → HasNoHistory r.start (journal_of r.journals) end) → AuditFinds r found
fault_found None r end e none fault refused = let h = none refl in (h.0, subst (λ o. IsAudited r.start (journal_of r.journals) o h.0) e h.1)
fault_found (Some f) r end e none fault refused =
    (subst (λ o. IsFault r.start (journal_of r.journals) o f) e fault, λ other. subst (λ o. HasNoHistory r.start (journal_of r.journals) o) e (refused other))

-- once the report is written
amiss : (r : RunRecord) (audit : Option AuditFault) → (((audit ≡ None) × AreFine r.status) → ⊥) → IsAmiss r audit
amiss r None never = inl (λ fine. never (refl, fine))
amiss r (Some f) never = inr (f, refl)

pub report_well : (b : Bool) (r : RunRecord) (audit : Option AuditFault) (old new : Option (List ℕ)) → AuditFinds r audit → IsTrue b ↔ ((audit ≡ None) × AreFine r.status) → b ≡ true
    → Appends old new (report_text r audit) → ReportTold Well r old new
report_well b r audit old new k w e a = let h = w.0 e in (h.1, (subst (AuditFinds r) h.0 k, subst (λ x. Appends old new (report_text r x)) h.0 a))

pub report_amiss : (b : Bool) (r : RunRecord) (audit : Option AuditFault) (old new : Option (List ℕ)) → AuditFinds r audit → IsTrue b ↔ ((audit ≡ None) × AreFine r.status) → b ≡ false
    → Appends old new (report_text r audit) → ReportTold Failed r old new
report_amiss b r audit old new k w e a = (audit, (k, inl (a, amiss r audit (λ h. let well = w.1 h in cc))))
