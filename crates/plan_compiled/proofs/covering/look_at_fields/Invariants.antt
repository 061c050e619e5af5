use Rattle.plan_compiled.specs.Complete.{LookAtFields}
use Rattle.plan_compiled.proofs.covering.look_at_fields.Given as goal

abbrev pub invariant-loop-at : goal.invariant-loop-at
invariant-loop-at l = LookAtFields l.layout l.rows l.span.first l.at
