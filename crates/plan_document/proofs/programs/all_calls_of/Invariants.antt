use Rattle.std.proofs.Common.{◌≡◌, map, take}
use Rattle.plan_document.specs.Saying.{calls_of}
use Rattle.plan_document.proofs.programs.all_calls_of.Given as goal

abbrev pub invariant-loop-i : goal.invariant-loop-i
invariant-loop-i l = map (λ list. list.items) l.lists.items ≡ map (λ steps. calls_of steps.items) (take l.i l.programs)
