use Rattle.std.proofs.Common.{◌≡◌, ◌<◌, sym, ap, ◌∙◌, arith}
use Rattle.plan_types.specs.Below.{any_below}
use Rattle.plan_types.specs.Table.{zone_count}
use Rattle.plan_rules.specs.Refusals as refusals
use Rattle.plan_word.specs.Reading.{state_told}
use Rattle.plan_word.proofs.Guarding.{any_at, not_any_more}
use Rattle.plan_word.proofs.pose_guards.stands_anywhere.Goals as goal

pub returns-then-stands_at : goal.returns-then-stands_at
returns-then-stands_at c =
    let t = c.args.plan.now in
    let inside : c.loop-zone.zone < zone_count t = omega (arith, c.loop-zone-test.true, c.zone_count-zone-end.ensures.count) in
    sym (any_at (refusals.stands_at t (state_told t c.args.word) c.args.machine) c.loop-zone.zone (zone_count t) inside (sym c.stands_at.ensures ∙ c.if-stands_at.true))

pub loop-zone-preserved : goal.loop-zone-preserved
loop-zone-preserved c =
    let t = c.args.plan.now in
    not_any_more (refusals.stands_at t (state_told t c.args.word) c.args.machine) c.loop-zone.zone c.loop-zone.invariant (sym c.stands_at.ensures ∙ c.if-stands_at.false)

pub returns : goal.returns
returns c =
    let t = c.args.plan.now in
    let all : c.loop-zone.zone ≡ zone_count t = omega (arith, c.loop-zone-test.false, c.loop-zone.auto.zone-end, c.zone_count-zone-end.ensures.count) in
    sym c.loop-zone.invariant ∙ ap (any_below (refusals.stands_at t (state_told t c.args.word) c.args.machine)) all
