use Rattle.plan_rules.proofs.Lowest.{poses_name_lowest}
use Rattle.plan_rules.proofs.laws.poses_name_lowest_zones.Goals as goal

pub returns : goal.returns
returns c = poses_name_lowest
