use Rattle.plan_compiled.proofs.Walking.{narrowed}
use Rattle.plan_compiled.proofs.covering.add_number.Goals as goal

pub returns-clause-left : goal.returns-clause-left
returns-clause-left c = λ fits. narrowed c.args.layout.now c.args.rows.now c.args.span c.args.field c.args.number c.matching-set.result _ _ c.matching-set.ensures c.add_left.ensures.left
