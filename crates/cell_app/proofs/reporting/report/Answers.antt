use Rattle.cell_app.specs.Reported.{AuditFinds}
use Rattle.cell_app.proofs.ReportLemmas.{fault_found, report_amiss, report_well}
use Rattle.cell_app.proofs.reporting.report.Goals as goal

pub returns-in-Ok-clause-told : goal.returns-in-Ok-clause-told
returns-in-Ok-clause-told g c =
    let r = c.args.run.now in
    let found : AuditFinds r c.find_fault-audited.result = fault_found c.find_fault-audited.result r _ c.as_ref.ensures.value c.find_fault-audited.ensures.none c.find_fault-audited.ensures.fault c.find_fault-audited.ensures.refused in
    report_well c.is_well.result r c.find_fault-audited.result _ _ found c.is_well.ensures c.if-is_well.true c.in-Ok.ensures.text

pub returns-in-Ok-2-clause-told : goal.returns-in-Ok-2-clause-told
returns-in-Ok-2-clause-told g c =
    let r = c.args.run.now in
    let found : AuditFinds r c.find_fault-audited.result = fault_found c.find_fault-audited.result r _ c.as_ref.ensures.value c.find_fault-audited.ensures.none c.find_fault-audited.ensures.fault c.find_fault-audited.ensures.refused in
    report_amiss c.is_well.result r c.find_fault-audited.result _ _ found c.is_well.ensures c.if-is_well.false c.in-Ok.ensures.text
