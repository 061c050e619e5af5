use Rattle.plan_header.specs.Readings as spec
use Rattle.plan_header.proofs.lemmas.Lines.{one_more}
use Rattle.plan_header.proofs.readings.push_each.Goals as goal

pub zones-preserved : goal.zones-preserved
zones-preserved c = one_more (spec.zone_reading c.args.named.now) _ _ _ c.zones.zone c.zones.invariant c.in_ok-push_zone.ensures
