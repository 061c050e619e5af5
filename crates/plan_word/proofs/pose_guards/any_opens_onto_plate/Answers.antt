use Rattle.std.proofs.Common.{◌≡◌, ◌<◌, sym, ap, ◌∙◌, arith}
use Rattle.plan_types.specs.Below.{first_below}
use Rattle.plan_types.specs.Table.{zone_count}
use Rattle.plan_rules.specs.Refusals.{opens_onto_plate}
use Rattle.plan_word.specs.Reading.{state_told}
use Rattle.plan_word.proofs.Guarding.{first_at, none_more}
use Rattle.plan_word.proofs.pose_guards.any_opens_onto_plate.Goals as goal

pub returns-in-Some : goal.returns-in-Some
returns-in-Some c =
    let t = c.args.plan.now in
    let f = opens_onto_plate t (state_told t c.args.word) c.args.pose in
    let inside : c.loop-zone.zone < zone_count t = omega (arith, c.loop-zone-test.true, c.zone_count-zone-end.ensures.count) in
    sym (first_at f c.loop-zone.zone (zone_count t) c.in-Some.refusal inside c.loop-zone.invariant (sym c.opens_onto_plate.ensures ∙ c.in-Some.is))

pub loop-zone-preserved : goal.loop-zone-preserved
loop-zone-preserved c =
    let t = c.args.plan.now in
    none_more (opens_onto_plate t (state_told t c.args.word) c.args.pose) c.loop-zone.zone c.loop-zone.invariant (sym c.opens_onto_plate.ensures ∙ c.in_default.is)

pub returns : goal.returns
returns c =
    let t = c.args.plan.now in
    let all : c.loop-zone.zone ≡ zone_count t = omega (arith, c.loop-zone-test.false, c.loop-zone.auto.zone-end, c.zone_count-zone-end.ensures.count) in
    sym c.loop-zone.invariant ∙ ap (first_below (opens_onto_plate t (state_told t c.args.word) c.args.pose)) all
