use Rattle.cell_report.proofs.Names.{◌∙◌, ◌∷◌, [], on_ok_weaker, audit_line, axes_line, end_lines, machine_lines, report_text, stamp_line, start_line, version_line, where_known}
use Rattle.cell_report.proofs.Reports.{one_more, report_told}
use Rattle.cell_report.proofs.report.push_report.Goals as goal

pub returns : goal.returns
unfolding report_text
returns c =
    let run = c.args.run.now in
    on_ok_weaker c.push_audit.result (λ audit. λ empty.
    let machines = one_more _ _ _ _ c.in_ok-push_machines.ensures (one_more _ _ _ _ c.in_ok-push_start.ensures (rw empty at c.in_ok-push_version.ensures)) in
    let end = one_more _ _ _ _ c.in_ok-push_end.ensures machines in
    let axes = one_more _ _ _ _ c.in_ok-push_axes.ensures end in
    let stamp = one_more _ _ _ _ c.in_ok-push_stamp.ensures axes in
    one_more _ _ _ _ audit stamp
    ∙ report_told version_line (start_line run.start) (axes_line run.axes) (audit_line c.args.audit) (machine_lines run.counts run.status) (where_known run.end end_lines) (where_known run.end (λ s. stamp_line s ∷ []))) c.push_audit.ensures
