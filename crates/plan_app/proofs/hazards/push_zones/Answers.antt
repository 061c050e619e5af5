use Rattle.plan_app.specs.Hazards as spec
use Rattle.plan_header.proofs.lemmas.Lines.{one_more}
use Rattle.plan_app.proofs.hazards.push_zones.Goals as goal

pub zones-preserved : goal.zones-preserved
zones-preserved c = one_more (spec.zone_part c.args.named.now c.args.state.now) _ _ _ c.zones.zone c.zones.invariant c.in_ok-push_zone_part.ensures
