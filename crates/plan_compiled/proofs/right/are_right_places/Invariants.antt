use Rattle.plan_compiled.specs.Right.{AreRightPlaces}
use Rattle.plan_compiled.proofs.right.are_right_places.Given as goal

abbrev pub invariant-loop-place : goal.invariant-loop-place
invariant-loop-place l = AreRightPlaces l.plan l.asked l.part l.place
