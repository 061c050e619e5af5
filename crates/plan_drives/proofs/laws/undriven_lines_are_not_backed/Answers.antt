use Rattle.plan_drives.proofs.Lacking.{undriven_not_backed}
use Rattle.plan_drives.proofs.laws.undriven_lines_are_not_backed.Goals as goal

pub returns : goal.returns
returns c =
    λ backed. undriven_not_backed c.args.plan.now c.args.machine c.args.program.now c.args.found.now c.requires backed
