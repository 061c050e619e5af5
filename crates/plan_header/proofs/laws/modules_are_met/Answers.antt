use Rattle.plan_header.proofs.ModuleRows.{module-lines, whole-modules}
use Rattle.plan_header.proofs.laws.modules_are_met.Goals as goal

pub returns : goal.returns
returns c = record { lines = module-lines; whole = whole-modules }
