use Rattle.std.proofs.Common.{take}
use Rattle.std.specs.List.{AllZip, enumerate_from}
use Rattle.plan_app.specs.Drives.{IsDriveOf}
use Rattle.plan_app.proofs.drives.drives_by.Given as goal

abbrev pub invariant-loop-machine : goal.invariant-loop-machine
invariant-loop-machine l = AllZip (IsDriveOf l.plan) (take l.machine (enumerate_from 0 l.programs)) l.drives.items
