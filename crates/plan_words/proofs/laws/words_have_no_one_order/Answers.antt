use Rattle.plan_words.proofs.Rows.{no_one_order, looks_are_no_moment}
use Rattle.plan_words.proofs.laws.words_have_no_one_order.Goals as goal

pub returns-clause-order : goal.returns-clause-order
returns-clause-order c = no_one_order

pub returns-clause-looks : goal.returns-clause-looks
returns-clause-looks c = looks_are_no_moment
