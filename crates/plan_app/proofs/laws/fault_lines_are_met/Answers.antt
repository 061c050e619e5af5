use Rattle.plan_app.proofs.FailedRows.{fault-lines, numbers-refused}
use Rattle.plan_app.proofs.laws.fault_lines_are_met.Goals as goal

pub returns : goal.returns
returns c = record { lines = fault-lines; numbers = numbers-refused }
