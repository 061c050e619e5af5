use Rattle.plan_words.proofs.FirstFit.{groups_go_first, no_two_fit}
use Rattle.plan_words.proofs.WordRows.{words_are_right}
use Rattle.plan_words.proofs.laws.groups_share_words.Goals as goal

pub returns-clause-first : goal.returns-clause-first
returns-clause-first c = groups_go_first

pub returns-clause-apart : goal.returns-clause-apart
returns-clause-apart c = no_two_fit

pub returns-clause-literal : goal.returns-clause-literal
returns-clause-literal c = words_are_right
