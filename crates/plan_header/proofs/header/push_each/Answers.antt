use Rattle.plan_header.specs.Headers as spec
use Rattle.plan_header.proofs.lemmas.Lines.{one_more}
use Rattle.plan_header.proofs.header.push_each.Goals as goal

pub numbers-preserved : goal.numbers-preserved
numbers-preserved c = one_more (spec.number_line c.args.kind.now c.args.names.now) _ _ _ c.numbers.number c.numbers.invariant c.in_ok-push_number.ensures
