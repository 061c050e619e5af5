use Rattle.plan_text.proofs.ScriptLaws.{records_answered, records_read, scripts_of_records, starts_of_digits}
use Rattle.plan_text.proofs.laws.records_are_answered.Goals as goal

pub returns-clause-read : goal.returns-clause-read
returns-clause-read c = records_read

pub returns-clause-answered : goal.returns-clause-answered
returns-clause-answered c = records_answered

pub returns-clause-starts : goal.returns-clause-starts
returns-clause-starts c = starts_of_digits

pub returns-clause-scripts : goal.returns-clause-scripts
returns-clause-scripts c = scripts_of_records
