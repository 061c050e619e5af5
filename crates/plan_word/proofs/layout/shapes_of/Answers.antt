use Rattle.std.proofs.Common.{◌∙◌, ◌<◌, length, arith, rules}
use Rattle.std.proofs.lemmas.List.{length-set}
use Rattle.std.proofs.lemmas.List.Edits.{fill_by_more}
use Rattle.std.proofs.lemmas.List.FromFn.{fill_by_all}
use Rattle.plan_types.specs.Table.{zone_shape, no_shape}
use Rattle.plan_word.proofs.layout.shapes_of.Goals as goal

pub loop-zone-preserved : goal.loop-zone-preserved
loop-zone-preserved c =
    let f = zone_shape c.args.plan.now in
    let shapes = c.loop-zone.shapes in
    let i = c.loop-zone.zone in
    let ten = c.loop-zone.invariant.0 in
    let inside : i < length shapes = omega (arith, ten, c.loop-zone-test.true) in
    rw c.zone_shape.ensures (length-set shapes i (f i) ∙ ten, fill_by_more f shapes i no_shape inside c.loop-zone.invariant.1)

pub returns : goal.returns
returns c = fill_by_all (zone_shape c.args.plan.now) c.loop-zone.shapes 10 no_shape c.loop-zone.invariant.0 (search rules)
