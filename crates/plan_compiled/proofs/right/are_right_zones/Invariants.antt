use Rattle.plan_compiled.specs.Right.{AreRightZones}
use Rattle.plan_compiled.proofs.right.are_right_zones.Given as goal

abbrev pub invariant-loop-zone : goal.invariant-loop-zone
invariant-loop-zone l = AreRightZones l.plan l.asked l.part l.zone
