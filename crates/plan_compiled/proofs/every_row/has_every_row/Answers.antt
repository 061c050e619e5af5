use Rattle.std.proofs.Common.{◌≡◌, below_more, refl, arith}
use Rattle.plan_compiled.specs.Complete.{HasMachineRows}
use Rattle.plan_compiled.proofs.Completing.{complete_by}
use Rattle.plan_compiled.proofs.every_row.has_every_row.Goals as goal

pub loop-machine-preserved : goal.loop-machine-preserved
loop-machine-preserved c =
    below_more (HasMachineRows c.args.plan.now c.args.rows.now c.args.starts.now) c.loop-machine.machine c.loop-machine.invariant (c.if-not-has_machine_rows.ensures refl)

pub returns-clause-rows : goal.returns-clause-rows
returns-clause-rows c = λ e.
    let end : c.loop-machine.machine ≡ 31 = omega arith in
    complete_by c.args.plan.now c.args.rows.now c.args.starts.now c.machines.ensures.plan (λ m l. c.loop-machine.invariant m (omega (arith, end, l)))
