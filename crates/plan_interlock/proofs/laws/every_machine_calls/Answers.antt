use Rattle.std.proofs.Common.{subst}
use Rattle.plan_types.specs.Plan.{IsPlan}
use Rattle.plan_interlock.proofs.Callers.{every_machine_calls}
use Rattle.plan_interlock.proofs.laws.every_machine_calls.Goals as goal

pub returns : goal.returns
returns c = every_machine_calls c.args.rules.now.plan.table (subst IsPlan c.plan.ensures c.machines.ensures.plan)
