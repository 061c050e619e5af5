use Rattle.plan_words.proofs.Joined.{states_are_whole, hazards_are_decided}
use Rattle.plan_words.proofs.laws.hazards_are_decided_by_words.Goals as goal

pub returns-clause-whole : goal.returns-clause-whole
returns-clause-whole c = states_are_whole

pub returns-clause-decided : goal.returns-clause-decided
returns-clause-decided c = hazards_are_decided
