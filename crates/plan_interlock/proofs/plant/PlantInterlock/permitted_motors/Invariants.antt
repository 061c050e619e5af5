use Rattle.std.proofs.Common.{map}
use Rattle.plan_interlock.proofs.EachLoad.{AreLoaded}
use Rattle.plan_interlock.proofs.plant.PlantInterlock.permitted_motors.Given as goal

abbrev pub invariant-loop-word : goal.invariant-loop-word
invariant-loop-word l = AreLoaded l.self (map (λ several. several.items) l.masks) l.fn.pass l.pass l.permitted l.word
