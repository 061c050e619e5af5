use Rattle.plan_interlock.proofs.EachWord.{AreAsked}
use Rattle.plan_interlock.proofs.plant.PlantInterlock.ask_each.Given as goal

abbrev pub invariant-loop-word : goal.invariant-loop-word
invariant-loop-word l = AreAsked l.call l.self l.fn.pass l.pass l.replies l.word
