use Rattle.plan_app.specs.Drives as spec
use Rattle.plan_header.proofs.lemmas.Lines.{one_more}
use Rattle.plan_app.proofs.drives.push_undriven.Goals as goal

pub machines-preserved : goal.machines-preserved
machines-preserved c =
    one_more (spec.drive_line c.args.named.now c.args.motors.now c.args.drives.now) _ _ _ c.machines.machine
    c.machines.invariant c.in_ok-push_drive.ensures
