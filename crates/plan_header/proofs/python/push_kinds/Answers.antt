use Rattle.plan_header.specs.Modules as spec
use Rattle.plan_header.proofs.lemmas.Lines.{three_parts}
use Rattle.plan_header.proofs.python.push_kinds.Goals as goal

pub returns : goal.returns
returns c =
    let n = c.args.named.now in
    three_parts c.push_places.result _ _ _ _ (spec.machines_listed n) (spec.zones_listed n) (spec.places_listed n)
    c.in_ok-push_machines.ensures c.in_ok-push_zones.ensures c.push_places.ensures
