use Rattle.plan_header.proofs.lemmas.Lines.{one_more}
use Rattle.plan_picture.specs.Pictures as spec
use Rattle.plan_picture.proofs.zones.push_zones.Goals as goal

pub zones-preserved : goal.zones-preserved
zones-preserved c =
    one_more (spec.zone_part c.args.shown.now) _ _ _ c.zones.zone c.zones.invariant c.in_ok-push_zone.ensures
