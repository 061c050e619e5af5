use Rattle.std.proofs.Common.{◌≡◌, ◌+ℤ◌, pos, w32, arith, rules}
use Rattle.std.proofs.lemmas.Int.{ints, to_z-of_z}
use mir.Val.{SFits}
use Rattle.cell_sensors.proofs.CurveLemmas.{mean_is_reading, mean_on_line, mean_stays}
use Rattle.cell_sensors.proofs.curve.between.Goals as goal

pub position_at-requires : goal.position_at-requires
position_at-requires c =
    let first : c.args.left.1 ≡ c.args.points.at_lo +ℤ pos c.above-low.result = omega (arith, ints) in
    let second : c.args.right.1 ≡ c.args.points.at_lo +ℤ pos c.above-high.result = omega (arith, ints) in
    mean_stays c.args.points c.args.left.1 c.args.right.1 c.above-low.result c.above-high.result c.mean_of.result first second c.requires.left.last c.requires.right.last c.mean_of.ensures.within

pub returns-clause-line : goal.returns-clause-line
returns-clause-line c =
    let first : c.args.left.1 ≡ c.args.points.at_lo +ℤ pos c.above-low.result = omega (arith, ints) in
    let second : c.args.right.1 ≡ c.args.points.at_lo +ℤ pos c.above-high.result = omega (arith, ints) in
    let fits : SFits w32 c.position_at.result = search rules in
    rw (to_z-of_z w32 c.position_at.result fits)
    (mean_on_line c.args.left c.args.right c.args.raw c.args.points.at_lo c.position_at.result c.above-low.result c.above-high.result c.mean_of.result c.requires.low c.requires.high c.requires.rising first second c.position_at.ensures c.mean_of.ensures.value)

pub returns-clause-reading : goal.returns-clause-reading
returns-clause-reading c =
    let first : c.args.left.1 ≡ c.args.points.at_lo +ℤ pos c.above-low.result = omega (arith, ints) in
    let second : c.args.right.1 ≡ c.args.points.at_lo +ℤ pos c.above-high.result = omega (arith, ints) in
    let fits : SFits w32 c.position_at.result = search rules in
    rw (to_z-of_z w32 c.position_at.result fits)
    (mean_is_reading c.args.points c.args.left c.args.right c.args.raw c.position_at.result c.above-low.result c.above-high.result c.mean_of.result c.above-low.ensures.limits c.requires.inside c.requires.left c.requires.right c.requires.low c.requires.high c.requires.rising first second c.position_at.ensures c.mean_of.ensures.value)
