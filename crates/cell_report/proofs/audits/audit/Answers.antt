use Rattle.std.proofs.Common.{rules}
use Rattle.cell_report.proofs.Refusals.{refused_if}
use Rattle.cell_report.proofs.audits.audit.Goals as goal

pub returns-clause-ok : goal.returns-clause-ok
returns-clause-ok c = let found = c.in_ok-retrace.ensures.ok in rw found.kept found.audited

pub returns-clause-lawful : goal.returns-clause-lawful
returns-clause-lawful c = rw c.deref.ensures.value at c.lawful_throughout.ensures

pub returns-clause-order : goal.returns-clause-order
returns-clause-order c = let found = c.in_ok-retrace.ensures.ok in rw found.kept found.order

pub returns-in_err-retrace-clause-refused : goal.returns-in_err-retrace-clause-refused
returns-in_err-retrace-clause-refused c = refused_if _ _ _ _ (search rules)
