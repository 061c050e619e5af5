use Rattle.plan_header.specs.Turns as spec
use Rattle.plan_header.proofs.lemmas.Lines.{three_parts}
use Rattle.plan_header.proofs.lists.push_own.Goals as goal

pub returns : goal.returns
returns c =
    let n = c.args.named.now in
    three_parts c.push_places.result _ _ _ _ (spec.machine_list n) (spec.zone_list n) (spec.place_list n)
    c.in_ok-push_machines.ensures c.in_ok-push_zones.ensures c.push_places.ensures
