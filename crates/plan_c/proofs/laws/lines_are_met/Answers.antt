use Rattle.plan_c.proofs.LineRows as rows
use Rattle.plan_c.proofs.laws.lines_are_met.Goals as goal

pub returns-clause-faults : goal.returns-clause-faults
returns-clause-faults c = rows.faults_have_numbers

pub returns-clause-rows : goal.returns-clause-rows
returns-clause-rows c = rows.lines_are_met
