use Rattle.std.proofs.Common.{◌<◌, subst, arith}
use Rattle.plan_types.specs.Table.{zone_count, place_count}
use Rattle.plan_word.specs.declared.layout.Field.TheVariants.{Place}
use Rattle.plan_word.specs.Layout.{Counts}
use Rattle.plan_compiled.specs.Complete.{Steps}
use Rattle.plan_compiled.proofs.Walking.{leave_place}
use Rattle.plan_compiled.proofs.covering.after_places.Goals as goal

pub loop-place-preserved : goal.loop-place-preserved
loop-place-preserved c =
    let t = c.args.plan.now in
    let a = c.args.asked in
    let rows = c.args.rows.now in
    let span = c.args.span in
    let n = c.loop-place.place in
    let there : n < place_count t = omega (arith, c.loop-place-test.true, c.place_count-place-end.ensures.count) in
    leave_place t a rows span c.loop-place.sets c.after_field.new.sets (zone_count t) c.loop-place.place c.loop-place.invariant there
    (subst (λ (k : Counts). Steps t a k rows span (Place n) c.loop-place.sets c.after_field.new.sets) c.requires.layout c.after_field.ensures)
