use Rattle.std.proofs.Common.{◌≡◌, ◌+◌, subst, arith}
use Rattle.plan_types.specs.Table.{zone_count, place_count}
use Rattle.plan_word.specs.Packed.{zone_parts, place_parts}
use Rattle.plan_word.proofs.lemmas.LaidOut.{low_parts}
use Rattle.plan_word.proofs.Packing.{zone_more, zone_end, packed_by}
use Rattle.plan_word.proofs.word.pack.Goals as goal

pub loop-zone-preserved : goal.loop-zone-preserved
loop-zone-preserved c =
    let t = c.args.plan.now in
    let l = c.args.layout.now in
    let z = c.loop-zone.zone in
    record {
      word = zone_more t c.args.state.now l z c.loop-zone.word c.zone_code-code.result c.with-word.result c.zone.result c.requires.layout c.loop-zone.invariant.word c.zone.ensures c.zone_code-code.ensures.code c.with-word.ensures.word;
      below = zone_end t l z c.with-word.result c.requires.layout c.with-word.ensures.below;
    }

pub returns : goal.returns
returns c =
    let t = c.args.plan.now in
    let s = c.args.state.now in
    let all : c.loop-place.place ≡ place_count t = omega (arith, c.place_count-place-end.ensures.count) in
    let low : c.loop-place.word ≡ low_parts t s = subst (λ n. c.loop-place.word ≡ zone_parts t s (zone_count t) + place_parts t s n) all c.loop-place.invariant.word in
    packed_by t s c.args.layout.now c.loop-place.word c.with-word-2.result c.with.result c.from.result c.from-2.result
    c.requires.layout low c.with-word-2.ensures.word c.from.ensures c.with.ensures.word c.from-2.ensures
