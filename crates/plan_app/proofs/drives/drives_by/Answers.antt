use Rattle.std.proofs.Common.{List, arith, subst}
use Rattle.plan_controller.specs.declared.step.Step.{Step}
use Rattle.plan_app.specs.Drives.{IsDrive, IsDriveOf}
use Rattle.plan_app.proofs.Numbered.{numbered_more, numbered_all}
use Rattle.plan_app.proofs.drives.drives_by.Goals as goal

pub loop-machine-preserved : goal.loop-machine-preserved
loop-machine-preserved c =
    let program = c.index-programs-machine.result in
    let found : IsDrive c.args.plan.now c.loop-machine.machine program.items c.in_ok-drive.drive
    = subst (λ (steps : List Step). IsDrive c.args.plan.now c.loop-machine.machine steps c.in_ok-drive.drive)
    c.deref.ensures.value c.in_ok-drive.ensures in
    numbered_more (IsDriveOf c.args.plan.now) c.args.programs.now c.loop-machine.machine program c.loop-machine.drives.items
    c.push.new.self.items c.in_ok-drive.drive (omega arith) c.index-programs-machine.is c.loop-machine.invariant found
    c.in_ok-push.ensures.items

pub returns : goal.returns
returns c =
    numbered_all (IsDriveOf c.args.plan.now) c.args.programs.now c.loop-machine.machine c.loop-machine.drives.items
    (omega arith) c.loop-machine.invariant
