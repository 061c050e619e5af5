use Rattle.std.proofs.Common.{get_or, map, [], below_more}
use Rattle.plan_drives.specs.InStep.{IsInStep}
use Rattle.plan_drives.proofs.in_step.first_out_of_step.Goals as goal

pub loop-machine-preserved : goal.loop-machine-preserved
loop-machine-preserved c =
    let programs = map (λ program. program.items) c.args.programs.now in
    let lines = c.args.lines.now in
    let m = c.loop-machine.machine in
    let found = c.is_in_step.ensures.0 c.if-not-is_in_step.false in
    below_more (λ n. IsInStep c.args.plan.now c.args.state.now n (get_or programs n []) (get_or lines n 0)) m c.loop-machine.invariant
    (rw (← c.program_of-program.ensures, ← c.line_of.ensures) found)
