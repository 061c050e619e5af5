use Rattle.std.proofs.Common.{◌≤◌, length, ap, arith}
use Rattle.plan_types.specs.Table.{zone_count}
use Rattle.plan_word.proofs.Laying.{keeps_layout, layout_seen}
use Rattle.plan_word.proofs.layout.Layout.of.Goals as goal

pub invariant_of-result : goal.invariant_of-result
invariant_of-result c =
    let few : zone_count c.args.plan.now ≤ 10 = omega (arith, c.zone_count.ensures.count, c.zone_count.ensures.few) in
    keeps_layout c.args.plan.now _ c.zone_count.ensures.count c.place_count.ensures.count few c.place_count.ensures.fits
    (ap length c.shapes_of-shapes.ensures) c.shapes_of-shapes.ensures c.ends_of-ends.ensures

pub returns : goal.returns
returns c =
    let few : zone_count c.args.plan.now ≤ 10 = omega (arith, c.zone_count.ensures.count, c.zone_count.ensures.few) in
    layout_seen c.args.plan.now c.zone_count.result c.place_count.result c.shapes_of-shapes.result
    c.zone_count.ensures.count c.place_count.ensures.count few c.shapes_of-shapes.ensures
