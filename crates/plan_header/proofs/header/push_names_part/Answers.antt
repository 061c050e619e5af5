use Rattle.plan_header.specs.Headers as spec
use Rattle.plan_header.proofs.lemmas.Lines.{three_parts}
use Rattle.plan_header.proofs.header.push_names_part.Goals as goal

pub returns : goal.returns
returns c =
    three_parts c.push_places.result _ _ _ _ (spec.machines_part c.args.named.now) (spec.zones_part c.args.named.now)
    (spec.places_part c.args.named.now) c.in_ok-push_machines.ensures c.in_ok-push_zone_numbers.ensures c.push_places.ensures
