use Rattle.plan_text.proofs.Retold.{event_read, histories_answered, starts_of_plans}
use Rattle.plan_text.proofs.laws.histories_are_answered.Goals as goal

pub returns-clause-read : goal.returns-clause-read
returns-clause-read c = event_read

pub returns-clause-answered : goal.returns-clause-answered
returns-clause-answered c = histories_answered

pub returns-clause-starts : goal.returns-clause-starts
returns-clause-starts c = starts_of_plans
