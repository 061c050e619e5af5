use Rattle.plan_types.proofs.Keeping.{zone_kept}
use Rattle.plan_types.proofs.sheet.Sheet.push_zone.Goals as goal

pub invariant_of-self : goal.invariant_of-self
invariant_of-self c =
    (zone_kept c.self.inside c.self.invariant c.args.zone c.args.self.now c.self.view_is c.requires c.zone_row.result c.zone_row.ensures
    c.from.result c.from.ensures).0

pub returns : goal.returns
returns c =
    (zone_kept c.self.inside c.self.invariant c.args.zone c.args.self.now c.self.view_is c.requires c.zone_row.result c.zone_row.ensures
    c.from.result c.from.ensures).1
