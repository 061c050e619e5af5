use Rattle.std.proofs.Common.{ℕ, Bool, below_more, refl, ap, ◌∙◌, subst}
use Rattle.plan_word.specs.declared.layout.Field.TheVariants.{Place}
use Rattle.plan_word.specs.Layout.{Counts, counts_of}
use Rattle.plan_compiled.specs.declared.part.Part.{Part}
use Rattle.plan_compiled.specs.Rows.{part_in}
use Rattle.plan_compiled.specs.Right.{IsRightBit}
use Rattle.plan_compiled.proofs.right.are_right_places.Goals as goal

pub loop-place-preserved : goal.loop-place-preserved
loop-place-preserved c =
    let t = c.args.plan.now in
    let a = c.args.asked in
    let p = c.args.part.now in
    let q = c.loop-place.place in
    let At : ℕ → Part → Type 0 = λ y x. (full : Bool) → IsRightBit t a x y full in
    let here = subst (At q) (c.of_field-own.ensures ∙ ap (λ (k : Counts). part_in k p (Place q)) c.requires) (c.if-not-is_right_place.ensures refl) in
    below_more (λ y. At y (part_in (counts_of t) p (Place y))) q c.loop-place.invariant here
