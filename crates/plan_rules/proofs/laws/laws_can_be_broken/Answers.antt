use Rattle.plan_rules.proofs.Breaking.{holders, counts, rights, poses, handovers, stops, refusals, figures}
use Rattle.plan_rules.proofs.BreakingLift.{lift}
use Rattle.plan_rules.proofs.laws.laws_can_be_broken.Goals as goal

pub returns : goal.returns
returns c = record { holders = holders; counts = counts; rights = rights; poses = poses; handovers = handovers; stops = stops; refusals = refusals; figures = figures; lift = lift }
