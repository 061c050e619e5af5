use Rattle.plan_app.proofs.HazardRows.{kept-never-both}
use Rattle.plan_app.proofs.laws.kept_motors_are_never_both.Goals as goal

pub returns : goal.returns
returns c = kept-never-both
