use Rattle.plan_header.specs.Modules as spec
use Rattle.plan_header.proofs.lemmas.Lines.{one_more}
use Rattle.plan_header.proofs.python.push_each.Goals as goal

pub numbers-preserved : goal.numbers-preserved
numbers-preserved c = one_more (spec.name_item c.args.names.now) _ _ _ c.numbers.number c.numbers.invariant c.in_ok-push_number.ensures
