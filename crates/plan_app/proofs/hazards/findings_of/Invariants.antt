use Rattle.std.proofs.Common.{take}
use Rattle.std.specs.List.{AllZip}
use Rattle.plan_app.specs.Hazards.{IsFindingOf}
use Rattle.plan_app.proofs.hazards.findings_of.Given as goal

abbrev pub invariant-loop-i : goal.invariant-loop-i
invariant-loop-i l = AllZip (IsFindingOf l.most l.plan l.start) (take l.i l.plan.motors.hazards.items) l.findings.items
