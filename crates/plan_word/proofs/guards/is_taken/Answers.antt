use Rattle.std.proofs.Common.{◌≡◌, ◌<◌, sym, ap, ◌∙◌, arith}
use Rattle.plan_types.specs.Table.{zone_count}
use Rattle.plan_rules.specs.declared.state.ZoneState.{ZoneState}
use Rattle.plan_rules.specs.State.{is_coming}
use Rattle.plan_word.specs.Reading.{state_told}
use Rattle.plan_word.proofs.Guarding.{coming_below, taken_coming, none_comes_more, not_taken}
use Rattle.plan_word.proofs.guards.is_taken.Goals as goal

pub returns-then-is_coming : goal.returns-then-is_coming
returns-then-is_coming c =
    let t = c.args.plan.now in
    let p = c.args.place in
    let z = c.loop-zone.zone in
    let inside : z < zone_count t = omega (arith, c.loop-zone-test.true, c.zone_count-zone-end.ensures.count) in
    sym (taken_coming t (state_told t c.args.word) p z inside (ap (λ (v : ZoneState). is_coming t v p z) (sym c.zone_in_word-at.ensures.state) ∙ sym c.is_coming.ensures ∙ c.if-is_coming.true))

pub loop-zone-preserved : goal.loop-zone-preserved
loop-zone-preserved c =
    let t = c.args.plan.now in
    let p = c.args.place in
    let z = c.loop-zone.zone in
    none_comes_more t (state_told t c.args.word) p z c.loop-zone.invariant (ap (λ (v : ZoneState). is_coming t v p z) (sym c.zone_in_word-at.ensures.state) ∙ sym c.is_coming.ensures ∙ c.if-is_coming.false)

pub returns : goal.returns
returns c =
    let t = c.args.plan.now in
    let s = state_told t c.args.word in
    let p = c.args.place in
    let all : c.loop-zone.zone ≡ zone_count t = omega (arith, c.loop-zone-test.false, c.loop-zone.auto.zone-end, c.zone_count-zone-end.ensures.count) in
    sym (not_taken t s p (sym c.is_full_in.ensures.state ∙ c.if-is_full_in.false) (sym (ap (coming_below t s p) all) ∙ c.loop-zone.invariant))
