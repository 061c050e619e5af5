use Rattle.plan_app.specs.PageData as spec
use Rattle.plan_header.proofs.lemmas.Lines.{one_more}
use Rattle.plan_app.proofs.page_data.push_zones.Goals as goal

pub zones-preserved : goal.zones-preserved
zones-preserved c =
    one_more (spec.next_item (spec.zone_item c.args.named.now)) _ _ _
    c.zones.zone c.zones.invariant c.in_ok-push_zone.ensures
