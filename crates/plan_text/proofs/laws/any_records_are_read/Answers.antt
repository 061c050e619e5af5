use Rattle.plan_text.proofs.RecordLaws.{reasons_are_of_fields, records_are_calls, records_are_starts}
use Rattle.plan_text.proofs.laws.any_records_are_read.Goals as goal

pub returns-clause-calls : goal.returns-clause-calls
returns-clause-calls c = records_are_calls

pub returns-clause-starts : goal.returns-clause-starts
returns-clause-starts c = records_are_starts

pub returns-clause-reasons : goal.returns-clause-reasons
returns-clause-reasons c = reasons_are_of_fields
