use Rattle.std.proofs.Common.{◌≡◌, ℕ, ◌+◌, ◌*◌, ◌<◌, ◌^◌, sym, ap₂, ◌∙◌, subst, arith}
use Rattle.plan_types.specs.Table.{zone_count, place_count}
use Rattle.plan_rules.proofs.lemmas.Below.{sum_below_more}
use Rattle.plan_word.specs.declared.layout.Field.TheVariants.{Zone}
use Rattle.plan_word.specs.Layout.{Counts, counts_of, start_of, end_of}
use Rattle.plan_word.proofs.lemmas.Shapes.{bits_at}
use Rattle.plan_motors.specs.Mask.{zone_mask, zone_masks, place_masks, mask_of}
use Rattle.plan_motors.proofs.mask.mask_of.Goals as goal

pub returns : goal.returns
unfolding mask_of
returns c =
    let t = c.args.plan.now in
    let m = c.args.motor.now in
    let all : c.loop-place.place ≡ place_count t = omega (arith, c.place_count-place-end.ensures.count) in
    subst (λ n. c.loop-place.mask ≡ zone_masks t m (zone_count t) + place_masks t m n) all c.loop-place.invariant.mask

pub loop-zone-preserved : goal.loop-zone-preserved
loop-zone-preserved c =
    let t = c.args.plan.now in
    let m = c.args.motor.now in
    let z = c.loop-zone.zone in
    let bits = c.zone_mask-bits.ensures.mask in
    let part : ℕ → ℕ = λ y. zone_mask t m y * 2 ^ start_of (counts_of t) (Zone y) in
    record {
      mask =
          c.with-mask.ensures.word
          ∙ ap₂ (λ a b. a + b) c.loop-zone.invariant.mask (ap₂ (λ v (k : Counts). v * 2 ^ start_of k (Zone z)) bits c.requires.layout)
          ∙ sym (sum_below_more part z);
      below =
          subst (λ e. c.with-mask.result < 2 ^ e) (sym (sum_below_more (bits_at t) z))
          (subst (λ (k : Counts). c.with-mask.result < 2 ^ end_of k (Zone z)) c.requires.layout c.with-mask.ensures.below);
    }
