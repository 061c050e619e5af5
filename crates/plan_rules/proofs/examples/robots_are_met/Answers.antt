use Rattle.plan_rules.proofs.SpaceRows.{robots_are_met}
use Rattle.plan_rules.proofs.examples.robots_are_met.Goals as goal

pub returns : goal.returns
returns c = robots_are_met
