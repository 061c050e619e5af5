use Rattle.interlock_tests.specs.Held.{AreHeld}
use Rattle.interlock_tests.proofs.interlock.played.take_steps.Given as goal

abbrev pub invariant-loop-machine : goal.invariant-loop-machine
invariant-loop-machine l = AreHeld l.interlock l.callers
