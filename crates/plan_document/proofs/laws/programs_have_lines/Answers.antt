use Rattle.plan_document.proofs.TableLaws.{all_ask, lined}
use Rattle.plan_document.proofs.laws.programs_have_lines.Goals as goal

pub returns-clause-lines : goal.returns-clause-lines
returns-clause-lines c = lined c.calls_are_told_as_read.ensures c.own_poses_come_first.ensures.first

pub returns-clause-asks : goal.returns-clause-asks
returns-clause-asks c = all_ask
