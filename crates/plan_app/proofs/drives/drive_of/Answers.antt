use Rattle.std.proofs.Common.{◌∙◌}
use Rattle.plan_app.proofs.DriveLemmas.{drive_found}
use Rattle.plan_app.proofs.drives.drive_of.Goals as goal

pub returns : goal.returns
returns c =
    drive_found c.args.plan.now c.args.machine c.args.program.now c.deref.result.now
    (c.deref.ensures.value ∙ c.in_ok-lines.ensures) c.first_undriven.result c.first_undriven.ensures.none
    c.first_undriven.ensures.why c.first_undriven.ensures.first
