use Rattle.std.proofs.Common.{◌≡◌, true, arith, rules, below_more}
use Rattle.cell_sensors.specs.Curve.{IsNearPair, pair_at}
use Rattle.cell_sensors.proofs.CurveLemmas.{above_first_raw}
use Rattle.cell_sensors.proofs.curve.are_near.Goals as goal

pub is_near-requires : goal.is_near-requires
is_near-requires c =
    let least = above_first_raw c.args.pairs.now c.requires.rising c.pairs.i (omega arith) in
    rw c.pair_of.ensures (omega (arith, least, c.requires.ends.first))

pub pairs-preserved : goal.pairs-preserved
pairs-preserved c =
    let yes : c.is_near.result ≡ true = search rules in
    below_more (λ k. IsNearPair c.args.points (pair_at c.args.pairs.now k)) c.pairs.i c.pairs.invariant (rw c.pair_of.ensures at (c.is_near.ensures.0 yes))
