use Rattle.std.proofs.Common.{arith}
use Rattle.std.proofs.lemmas.Grind.{common_steps}
use Rattle.explore_app.proofs.schedule.is_same_refusal.Goals as goal

pub returns : goal.returns
returns c = grind (arith, common_steps)
