use Rattle.std.proofs.Common.{◌≡◌, ◌<◌, subst, arith}
use Rattle.plan_types.specs.Table.{zone_count}
use Rattle.plan_word.specs.declared.layout.Field.TheVariants.{Zone}
use Rattle.plan_word.specs.Layout.{Counts}
use Rattle.plan_compiled.specs.Complete.{Steps, LeavesRows}
use Rattle.plan_compiled.proofs.Walking.{leave_zone}
use Rattle.plan_compiled.proofs.covering.after_zones.Goals as goal

pub loop-zone-preserved : goal.loop-zone-preserved
loop-zone-preserved c =
    let t = c.args.plan.now in
    let a = c.args.asked in
    let rows = c.args.rows.now in
    let span = c.args.span in
    let n = c.loop-zone.zone in
    let there : n < zone_count t = omega (arith, c.loop-zone-test.true, c.zone_count-zone-end.ensures.count) in
    leave_zone t a rows span c.loop-zone.sets c.after_field.new.sets c.loop-zone.zone 0 c.requires.plain c.loop-zone.invariant there
    (subst (λ (k : Counts). Steps t a k rows span (Zone n) c.loop-zone.sets c.after_field.new.sets) c.requires.layout c.after_field.ensures)

pub returns : goal.returns
returns c =
    let t = c.args.plan.now in
    let end : c.loop-zone.zone ≡ zone_count t = omega (arith, c.zone_count-zone-end.ensures.count) in
    subst (λ n. LeavesRows t c.args.asked c.args.rows.now c.args.span c.loop-zone.sets n 0) end c.loop-zone.invariant
