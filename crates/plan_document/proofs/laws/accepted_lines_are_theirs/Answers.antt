use Rattle.plan_document.proofs.Theirs.{are_theirs}
use Rattle.plan_document.proofs.laws.accepted_lines_are_theirs.Goals as goal

pub returns : goal.returns
returns c = are_theirs c.refusals_tell_causes.ensures
