use Rattle.std.proofs.Common.{◌≡◌, false, get_or, subst}
use Rattle.plan_word.specs.declared.layout.Field.TheVariants.{Stop}
use Rattle.plan_word.specs.Layout.{Counts}
use Rattle.plan_compiled.specs.Complete.{Steps, LookAtFields}
use Rattle.plan_compiled.proofs.Walking.{covered}
use Rattle.plan_compiled.proofs.covering.covers.Goals as goal

pub returns-then-not-sets : goal.returns-then-not-sets
returns-then-not-sets c = λ e.
    let t = c.args.plan.now in
    let a = c.args.asked in
    let rows = c.args.rows.now in
    let span = c.args.span in
    let sets = c.after_places.new.sets in
    let left = c.after_field.new.sets in
    let none : get_or left 0 false ≡ false = c.if-not-sets.true in
    covered t a rows span sets left c.after_places.ensures
    (subst (λ (k : Counts). Steps t a k rows span Stop sets left) c.requires.layout c.after_field.ensures)
    none
    (subst (λ (k : Counts). LookAtFields k rows span.first span.count) c.requires.layout (c.look_at_fields.ensures e))
