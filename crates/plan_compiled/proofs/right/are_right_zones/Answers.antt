use Rattle.std.proofs.Common.{ℕ, ◌<◌, below_more, refl, ap, ◌∙◌, subst}
use Rattle.plan_word.specs.declared.layout.Field.TheVariants.{Zone}
use Rattle.plan_word.specs.Layout.{Counts, counts_of}
use Rattle.plan_compiled.specs.declared.part.Part.{Part}
use Rattle.plan_compiled.specs.Rows.{part_in}
use Rattle.plan_compiled.specs.Right.{IsRightCode}
use Rattle.plan_compiled.proofs.right.are_right_zones.Goals as goal

pub loop-zone-preserved : goal.loop-zone-preserved
loop-zone-preserved c =
    let t = c.args.plan.now in
    let a = c.args.asked in
    let p = c.args.part.now in
    let z = c.loop-zone.zone in
    let At : ℕ → Part → Type 0 = λ y x. (n : ℕ) → n < 32 → IsRightCode t a x y n in
    let here = subst (At z) (c.of_field-own.ensures ∙ ap (λ (k : Counts). part_in k p (Zone z)) c.requires) (c.if-not-is_right_zone.ensures refl) in
    below_more (λ y. At y (part_in (counts_of t) p (Zone y))) z c.loop-zone.invariant here
