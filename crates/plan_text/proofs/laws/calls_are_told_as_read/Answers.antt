use Rattle.plan_text.proofs.CallTexts.{told_as_read}
use Rattle.plan_text.proofs.laws.calls_are_told_as_read.Goals as goal

pub returns : goal.returns
returns c = record { same = told_as_read }
