use Rattle.std.proofs.Common.{◌≡◌, arith}
use Rattle.std.proofs.lemmas.List.FromFn.{fill_by_all}
use Rattle.plan_word.specs.Kept.{ends_in}
use Rattle.plan_word.proofs.layout.ends_of.Goals as goal

pub returns : goal.returns
returns c =
    let end : c.loop-zone.zone ≡ 10 = omega arith in
    fill_by_all (ends_in c.args.shapes.now) c.loop-zone.ends 11 0 c.loop-zone.invariant.long
    (λ k l. c.loop-zone.invariant.ends k (omega (arith, end, l)))
