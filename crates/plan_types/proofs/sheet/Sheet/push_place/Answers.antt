use Rattle.plan_types.proofs.Keeping.{place_kept}
use Rattle.plan_types.proofs.sheet.Sheet.push_place.Goals as goal

pub invariant_of-self : goal.invariant_of-self
invariant_of-self c =
    (place_kept c.self.inside c.self.invariant c.args.place c.args.self.now c.self.view_is c.requires
    c.from.result c.from.ensures).0
