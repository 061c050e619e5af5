use Rattle.std.proofs.Common.{◌≡◌, ℕ, ◌+◌, ◌*◌, ◌<◌, ◌^◌, sym, ap₂, ◌∙◌, subst, arith}
use Rattle.plan_types.specs.Table.{zone_count, place_count}
use Rattle.plan_rules.proofs.lemmas.Below.{sum_below_more}
use Rattle.plan_word.specs.declared.layout.Field.TheVariants.{Zone}
use Rattle.plan_word.specs.Layout.{Counts, counts_of, start_of, end_of}
use Rattle.plan_word.proofs.lemmas.Shapes.{bits_at}
use Rattle.plan_motors.specs.Mask.{zone_pattern, zone_patterns, place_patterns, pattern_of}
use Rattle.plan_motors.proofs.mask.pattern_of.Goals as goal

pub returns : goal.returns
unfolding pattern_of
returns c =
    let t = c.args.plan.now in
    let m = c.args.motor.now in
    let all : c.loop-place.place ≡ place_count t = omega (arith, c.place_count-place-end.ensures.count) in
    subst (λ n. c.loop-place.pattern ≡ zone_patterns t m (zone_count t) + place_patterns t m n) all c.loop-place.invariant.pattern

pub loop-zone-preserved : goal.loop-zone-preserved
loop-zone-preserved c =
    let t = c.args.plan.now in
    let m = c.args.motor.now in
    let z = c.loop-zone.zone in
    let bits = c.zone_pattern-bits.ensures.pattern in
    let part : ℕ → ℕ = λ y. zone_pattern t m y * 2 ^ start_of (counts_of t) (Zone y) in
    record {
      pattern =
          c.with-pattern.ensures.word
          ∙ ap₂ (λ a b. a + b) c.loop-zone.invariant.pattern (ap₂ (λ v (k : Counts). v * 2 ^ start_of k (Zone z)) bits c.requires.layout)
          ∙ sym (sum_below_more part z);
      below =
          subst (λ e. c.with-pattern.result < 2 ^ e) (sym (sum_below_more (bits_at t) z))
          (subst (λ (k : Counts). c.with-pattern.result < 2 ^ end_of k (Zone z)) c.requires.layout c.with-pattern.ensures.below);
    }
