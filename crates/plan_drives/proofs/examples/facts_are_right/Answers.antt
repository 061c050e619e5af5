use Rattle.plan_drives.proofs.Rows as rows
use Rattle.plan_drives.proofs.examples.facts_are_right.Goals as goal

pub returns : goal.returns
returns c = rows.facts_are_right
