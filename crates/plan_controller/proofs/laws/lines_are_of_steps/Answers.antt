use Rattle.std.proofs.Common.{refl}
use Rattle.plan_controller.proofs.laws.lines_are_of_steps.Goals as goal

pub returns : goal.returns
returns _ = record { call = λ c faults. refl; zone = λ z. refl; motors = λ motors until. refl }
