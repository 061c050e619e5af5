use Rattle.std.proofs.Common.{◌≡◌, ◌<◌, ◌≤◌, get_or, ap, ◌∙◌, subst, arith}
use Rattle.plan_word.specs.Layout.{Counts, zones_end, width_of}
use Rattle.plan_word.proofs.Laying.{end_kept}
use Rattle.plan_word.proofs.layout.Layout.zones_end.Goals as goal

pub returns-clause-end : goal.returns-clause-end
returns-clause-end c =
    let zones : c.self.inside.zones ≡ c.args.self.now.zones = ap (λ (k : Counts). k.zones) c.self.view_is in
    let inside : c.self.inside.zones < 11 = omega (arith, c.self.invariant.few) in
    ap (λ n. get_or c.self.inside.ends n 0) c.from.ensures
    ∙ end_kept c.self.inside c.args.self.now c.self.inside.zones c.self.invariant c.self.view_is inside
    ∙ ap (zones_end c.args.self.now) zones

pub returns-clause-fits : goal.returns-clause-fits
returns-clause-fits c =
    let fits : width_of c.args.self.now ≤ 64 = subst (λ (k : Counts). width_of k ≤ 64) c.self.view_is c.self.invariant.fits in
    omega (arith, returns-clause-end c, fits)
