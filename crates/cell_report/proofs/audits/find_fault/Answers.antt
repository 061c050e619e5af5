use Rattle.std.proofs.Common.{rules}
use Rattle.cell_report.proofs.Refusals.{refused_if_some}
use Rattle.cell_report.proofs.audits.find_fault.Goals as goal

pub returns-clause-refused : goal.returns-clause-refused
returns-clause-refused c = refused_if_some _ _ _ _ (search rules)
