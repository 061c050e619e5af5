use Rattle.cell_report.proofs.OneFault.{fault_is_one, order_is_one}
use Rattle.cell_report.proofs.laws.audits_are_one.Goals as goal

pub returns-clause-order : goal.returns-clause-order
returns-clause-order c = order_is_one

pub returns-clause-one_order : goal.returns-clause-one_order
returns-clause-one_order c = order_is_one

pub returns-clause-one_fault : goal.returns-clause-one_fault
returns-clause-one_fault c = fault_is_one
