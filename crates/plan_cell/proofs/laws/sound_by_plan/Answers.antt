use Rattle.plan_cell.proofs.Soundness.{sound_by_plan}
use Rattle.plan_cell.proofs.laws.sound_by_plan.Goals as goal

pub returns : goal.returns
returns c = sound_by_plan
