use Rattle.std.proofs.Common.{take}
use Rattle.std.specs.List.{AllZip}
use Rattle.plan_document.specs.Motors.{IsHazardOf}
use Rattle.plan_document.proofs.motors.hazards_of.Given as goal

abbrev pub invariant-loop-i : goal.invariant-loop-i
invariant-loop-i l = AllZip (IsHazardOf l.motors) (take l.i l.rows) l.hazards.items
