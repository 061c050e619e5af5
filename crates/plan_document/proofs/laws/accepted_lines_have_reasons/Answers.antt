use Rattle.plan_document.proofs.Doable.{lines_have_reasons}
use Rattle.plan_document.proofs.laws.accepted_lines_have_reasons.Goals as goal

pub returns : goal.returns
returns c = lines_have_reasons
