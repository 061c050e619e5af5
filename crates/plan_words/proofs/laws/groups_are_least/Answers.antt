use Rattle.plan_words.proofs.Least.{groups_are_least, groups_are_right}
use Rattle.plan_words.proofs.laws.groups_are_least.Goals as goal

pub returns-clause-least : goal.returns-clause-least
returns-clause-least c = groups_are_least

pub returns-clause-literal : goal.returns-clause-literal
returns-clause-literal c = groups_are_right
