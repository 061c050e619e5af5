use Rattle.std.proofs.Common.{ℕ, ◌<◌}
use Rattle.plan_compiled.specs.Complete.{FitsNumber, Narrows}
use Rattle.plan_compiled.proofs.covering.after_field.Given as goal

abbrev pub invariant-loop-number : goal.invariant-loop-number
invariant-loop-number l = (n : ℕ) → n < l.number → FitsNumber l.plan l.asked l.field n → Narrows l.layout l.rows l.span l.field n l.sets l.next
