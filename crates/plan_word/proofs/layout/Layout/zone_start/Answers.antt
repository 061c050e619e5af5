use Rattle.std.proofs.Common.{◌<◌, ◌≤◌, get_or, ap, ◌∙◌, subst, arith}
use Rattle.plan_word.specs.Layout.{Counts, width_of}
use Rattle.plan_word.proofs.Laying.{end_kept, zone_within, zone_low}
use Rattle.plan_word.proofs.layout.Layout.zone_start.Goals as goal

pub returns-clause-start : goal.returns-clause-start
returns-clause-start c =
    let zones = ap (λ (k : Counts). k.zones) c.self.view_is in
    let inside : c.args.zone < 11 = omega (arith, zones, c.requires, c.self.invariant.few) in
    ap (λ n. get_or c.self.inside.ends n 0) c.from.ensures
    ∙ end_kept c.self.inside c.args.self.now c.args.zone c.self.invariant c.self.view_is inside

pub returns-clause-within : goal.returns-clause-within
returns-clause-within c =
    let fits : width_of c.args.self.now ≤ 64 = subst (λ (k : Counts). width_of k ≤ 64) c.self.view_is c.self.invariant.fits in
    omega (arith, returns-clause-start c, zone_within c.args.self.now c.args.zone fits c.requires)

pub returns-clause-in_word : goal.returns-clause-in_word
returns-clause-in_word c =
    let fits : width_of c.args.self.now ≤ 64 = subst (λ (k : Counts). width_of k ≤ 64) c.self.view_is c.self.invariant.fits in
    omega (arith, returns-clause-start c, zone_low c.args.self.now c.args.zone fits c.requires)
