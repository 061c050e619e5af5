use Rattle.cell_word.proofs.Names.{◌≡◌, ◌+◌, ◌*◌, ◌<◌, ◌^◌, ◌++◌, map, take, ap, ap₂, ◌∙◌, subst, arith, flat_map, word_of, fields_at, place_field, packed}
use Rattle.cell_types.specs.Everything.{all_zones, all_places}
use Rattle.cell_rules.specs.ModelState.{one_if}
use Rattle.cell_word.proofs.Growing.{bit_of_zone, zone_step, zone_step_below, place_step, place_step_below}
use Rattle.cell_word.proofs.word.pack.Goals as goal

pub with_zone-word-requires : goal.with_zone-word-requires
with_zone-word-requires c = rw (bit_of_zone c.loop-zone.zone-index _ c.loop-zone-test.true) c.loop-zone.invariant.below

pub loop-zone-preserved : goal.loop-zone-preserved
loop-zone-preserved c =
    let i = c.loop-zone.zone-index in
    let inside = c.loop-zone-test.true in
    record {
      word = zone_step c.args.state.now i _ c.zone.result c.loop-zone.word c.with_zone-word.result inside c.loop-zone.invariant.word c.zone.ensures c.with_zone-word.ensures.word;
      below = zone_step_below i _ c.with_zone-word.result inside c.with_zone-word.ensures.below;
    }

pub loop-place-init : goal.loop-place-init
loop-place-init c =
    let all : c.loop-zone.zone-index ≡ 6 = omega arith in
    record {
      word = subst (λ n. c.loop-zone.word ≡ word_of (flat_map (fields_at c.args.state.now) (take n all_zones))) all c.loop-zone.invariant.word;
      below = subst (λ n. c.loop-zone.word < 2 ^ (5 * n)) all c.loop-zone.invariant.below;
    }

pub loop-place-preserved : goal.loop-place-preserved
loop-place-preserved c =
    let s = c.args.state.now in
    let i = c.loop-place.place-index in
    let inside = c.loop-place-test.true in
    record {
      word = place_step s (flat_map (fields_at s) all_zones) i _ c.is_full.result c.loop-place.word c.with_place-word.result inside c.loop-place.invariant.word c.is_full.ensures c.with_place-word.ensures.word;
      below = place_step_below i _ c.with_place-word.result inside c.with_place-word.ensures.below;
    }

pub with_bits-word-requires-clause-below : goal.with_bits-word-requires-clause-below
with_bits-word-requires-clause-below c =
    let all : c.loop-place.place-index ≡ 10 = omega arith in
    subst (λ n. c.loop-place.word < 2 ^ (30 + n)) all c.loop-place.invariant.below

pub returns : goal.returns
unfolding packed
returns c =
    let s = c.args.state.now in
    let all : c.loop-place.place-index ≡ 10 = omega arith in
    let below : c.loop-place.word ≡ word_of (flat_map (fields_at s) all_zones ++ map (place_field s) all_places) =
    subst (λ n. c.loop-place.word ≡ word_of (flat_map (fields_at s) all_zones ++ map (place_field s) (take n all_places))) all c.loop-place.invariant.word in
    c.with_bits.ensures.value
    ∙ ap₂ (λ n b. n + b * 2 ^ 60) c.with_bits-word.ensures.value (c.from-2.ensures ∙ ap one_if c.stopped.ensures)
    ∙ ap (λ n. c.loop-place.word + n * 2 ^ 40 + one_if s.stopped * 2 ^ 60) (c.from.ensures ∙ c.stamp.ensures.stamp)
    ∙ ap (λ n. n + s.stamp * 2 ^ 40 + one_if s.stopped * 2 ^ 60) below
