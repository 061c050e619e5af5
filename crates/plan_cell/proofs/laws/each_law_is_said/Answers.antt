use Rattle.plan_cell.proofs.LawRows.{law_rows}
use Rattle.plan_cell.proofs.LastStamp.{last_stamp_tells}
use Rattle.plan_cell.proofs.laws.each_law_is_said.Goals as goal

pub returns-clause-rows : goal.returns-clause-rows
returns-clause-rows c = law_rows

pub returns-clause-stamps : goal.returns-clause-stamps
returns-clause-stamps c = last_stamp_tells
