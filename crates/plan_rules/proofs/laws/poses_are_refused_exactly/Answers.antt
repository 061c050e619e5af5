use Rattle.plan_rules.proofs.PosesRefused.{poses_are_refused_exactly}
use Rattle.plan_rules.proofs.laws.poses_are_refused_exactly.Goals as goal

pub returns : goal.returns
returns c = poses_are_refused_exactly
