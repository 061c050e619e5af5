use Rattle.std.proofs.Common.{w32, subst, rules}
use Rattle.std.proofs.lemmas.Int.{to_z-of_z}
use mir.Val.{SFits}
use Rattle.cell_sensors.specs.Scale.{Scale}
use Rattle.cell_sensors.specs.Line.{IsReading}
use Rattle.cell_sensors.proofs.CurveNeighbours.{around, on_curve}
use Rattle.cell_sensors.proofs.curve.Curve.at.Goals as goal

pub between-requires-clause-inside : goal.between-requires-clause-inside
between-requires-clause-inside c = (around c.points-points.ensures c.pairs-pairs.ensures.curve c.left_of-left.ensures c.pair_of.ensures c.pair_of-2.ensures).inside

pub between-requires-clause-left : goal.between-requires-clause-left
between-requires-clause-left c = (around c.points-points.ensures c.pairs-pairs.ensures.curve c.left_of-left.ensures c.pair_of.ensures c.pair_of-2.ensures).left_near

pub between-requires-clause-right : goal.between-requires-clause-right
between-requires-clause-right c = (around c.points-points.ensures c.pairs-pairs.ensures.curve c.left_of-left.ensures c.pair_of.ensures c.pair_of-2.ensures).right_near

pub between-requires-clause-rising : goal.between-requires-clause-rising
between-requires-clause-rising c = (around c.points-points.ensures c.pairs-pairs.ensures.curve c.left_of-left.ensures c.pair_of.ensures c.pair_of-2.ensures).rising

pub between-requires-clause-low : goal.between-requires-clause-low
between-requires-clause-low c = (around c.points-points.ensures c.pairs-pairs.ensures.curve c.left_of-left.ensures c.pair_of.ensures c.pair_of-2.ensures).low

pub between-requires-clause-high : goal.between-requires-clause-high
between-requires-clause-high c = (around c.points-points.ensures c.pairs-pairs.ensures.curve c.left_of-left.ensures c.pair_of.ensures c.pair_of-2.ensures).high

pub returns-clause-value : goal.returns-clause-value
returns-clause-value c =
    let fits : SFits w32 c.between.result = search rules in
    rw (to_z-of_z w32 c.between.result fits)
    (on_curve c.between.result c.pairs-pairs.ensures.value c.left_of-left.ensures c.pair_of.ensures c.pair_of-2.ensures c.between.ensures.line)

pub returns-clause-reading : goal.returns-clause-reading
returns-clause-reading c =
    let fits : SFits w32 c.between.result = search rules in
    rw (to_z-of_z w32 c.between.result fits)
    (subst (λ (s : Scale). IsReading s c.args.raw c.between.result) c.points-points.ensures c.between.ensures.reading)
