use Rattle.plan_picture.specs.Pictures as spec
use Rattle.plan_header.proofs.lemmas.Lines.{three_parts}
use Rattle.plan_picture.proofs.zones.push_parties_by.Goals as goal

pub returns : goal.returns
returns c =
    three_parts c.push_guest.result _ _ _ _ (spec.zone_line c.args.shown.now c.args.zone c.args.host c.args.guest) (spec.host_part c.args.shown.now c.args.zone c.args.host) (spec.guest_part c.args.shown.now c.args.zone c.args.guest)
    c.in_ok-push_zone_line.ensures c.in_ok-push_host.ensures c.push_guest.ensures
