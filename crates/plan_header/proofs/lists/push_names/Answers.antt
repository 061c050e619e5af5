use Rattle.plan_header.specs.Turns as spec
use Rattle.plan_header.proofs.lemmas.Lines.{one_more}
use Rattle.plan_header.proofs.lists.push_names.Goals as goal

pub names-preserved : goal.names-preserved
names-preserved c =
    one_more (spec.name_item c.args.names.now) _ _ _ c.names.number c.names.invariant
    c.in_ok-push_name.ensures
