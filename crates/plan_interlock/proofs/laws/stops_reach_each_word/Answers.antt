use Rattle.plan_interlock.proofs.EachStop as stops
use Rattle.plan_interlock.proofs.laws.stops_reach_each_word.Goals as goal

pub returns : goal.returns
returns c = stops.stops_reach_each_word
