use Rattle.plan_app.proofs.DriveRows.{right-permitted}
use Rattle.plan_app.proofs.laws.right_drives_are_permitted.Goals as goal

pub returns : goal.returns
returns c = right-permitted
