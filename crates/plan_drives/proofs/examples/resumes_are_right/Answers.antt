use Rattle.plan_drives.proofs.Resumes as rows
use Rattle.plan_drives.proofs.examples.resumes_are_right.Goals as goal

pub returns : goal.returns
returns c = rows.resumes_are_right
