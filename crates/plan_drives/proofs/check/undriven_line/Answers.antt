use Rattle.std.proofs.Common.{sym, ap, ◌∙◌}
use Rattle.plan_drives.specs.Lacking as lacking
use Rattle.plan_drives.proofs.check.undriven_line.Goals as goal

pub returns-in-Run : goal.returns-in-Run
returns-in-Run c =
    c.first_motor.ensures ∙ sym (ap (lacking.undriven_line c.args.plan.now c.args.known.now c.args.number) c.in-Run.is)
