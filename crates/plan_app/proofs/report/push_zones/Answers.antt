use Rattle.plan_app.specs.Reports as spec
use Rattle.plan_header.proofs.lemmas.Lines.{one_more}
use Rattle.plan_app.proofs.report.push_zones.Goals as goal

pub zones-preserved : goal.zones-preserved
zones-preserved c = one_more (spec.zone_lines c.args.named.now) _ _ _ c.zones.zone c.zones.invariant c.in_ok-push_zone_lines.ensures
