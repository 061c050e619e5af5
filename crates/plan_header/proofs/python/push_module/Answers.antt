use Rattle.plan_header.specs.Modules as spec
use Rattle.plan_header.specs.Modules.{module_text}
use Rattle.plan_header.proofs.lemmas.Lines.{three_parts}
use Rattle.plan_header.proofs.python.push_module.Goals as goal

pub returns : goal.returns
unfolding module_text
returns c =
    let n = c.args.plan.now.named in
    let motors = c.args.plan.now.motors in
    three_parts c.push_parts.result _ _ _ _ (spec.bytes_listed n) (spec.names_of_kinds n)
    (spec.names_of_parts n motors.names motors.motors.items) c.in_ok-push_bytes_listed.ensures
    c.in_ok-push_kinds.ensures c.push_parts.ensures
