use Rattle.plan_interlock.specs.Plant.{IsOfPlant}
use Rattle.plan_tests.proofs.plant_interlocks.notes_of.Given as goal

abbrev pub invariant-loop-round : goal.invariant-loop-round
invariant-loop-round l = IsOfPlant l.interlock l.pass

abbrev pub invariant-loop-word : goal.invariant-loop-word
invariant-loop-word l = IsOfPlant l.interlock l.pass
