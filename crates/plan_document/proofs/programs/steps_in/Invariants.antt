use Rattle.std.proofs.Common.{take, IfSome}
use Rattle.plan_document.specs.Saying.{AreStepsOf}
use Rattle.plan_document.proofs.programs.steps_in.Given as goal

abbrev pub invariant-loop-item : goal.invariant-loop-item
invariant-loop-item l = IfSome l.motors (λ known. AreStepsOf l.named known.now l.sensors l.machine (take l.item l.lines) l.steps.items)
