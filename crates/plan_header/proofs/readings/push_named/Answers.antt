use Rattle.plan_header.specs.Readings as spec
use Rattle.plan_header.proofs.lemmas.Lines.{three_parts}
use Rattle.plan_header.proofs.readings.push_named.Goals as goal

pub returns : goal.returns
returns c =
    let n = c.args.named.now in
    let zone = c.args.zone in
    three_parts c.push_own.result _ _ _ _ (spec.guest_part n zone) (spec.owner_part n zone) (spec.own_part n zone)
    c.in_ok-push_guest.ensures c.in_ok-push_owner_of.ensures c.push_own.ensures
