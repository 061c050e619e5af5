use Rattle.std.proofs.Common.{map, take, IfSome}
use Rattle.std.specs.List.{AllZip}
use Rattle.plan_document.specs.Names.{numbered}
use Rattle.plan_document.specs.Saying.{IsProgramOf}
use Rattle.plan_document.proofs.programs.steps_of.Given as goal

abbrev pub invariant-loop-i : goal.invariant-loop-i
invariant-loop-i l = IfSome l.motors (λ known. AllZip (IsProgramOf l.named known.now) (numbered (take l.i l.machines)) (map (λ list. list.items) l.lists.items))
