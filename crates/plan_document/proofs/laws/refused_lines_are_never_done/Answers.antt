use Rattle.plan_document.proofs.Doable.{never_done}
use Rattle.plan_document.proofs.laws.refused_lines_are_never_done.Goals as goal

pub returns : goal.returns
returns c = never_done
