use Rattle.std.proofs.Common.{arith}
use Rattle.plan_rules.proofs.Stamps.{stamp_left}
use Rattle.plan_rules.proofs.state.State.after_call.Goals as goal

pub overflow_add-result : goal.overflow_add-result
overflow_add-result c = omega (arith, stamp_left c.args.plan.now c.args.self.now c.args.machine c.args.call c.requires)
