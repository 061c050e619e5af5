use Rattle.std.proofs.Common.{Option, ℕ, ap, ap₂, ◌∙◌, ◌/◌, ◌%◌}
use Rattle.plan_types.specs.declared.shape.ZoneShape.{ZoneShape}
use Rattle.plan_types.specs.Table.{zone_shape}
use Rattle.plan_word.specs.Layout.{Counts, shape_at}
use Rattle.plan_word.specs.Packed.{owner_values}
use Rattle.plan_word.specs.Reading.{state_in, owner_of_code, owner_in}
use Rattle.plan_word.proofs.lemmas.Shapes.{shape_is}
use Rattle.plan_word.proofs.codes.zone_of_code.Goals as goal

pub owner_of_code-owner-requires : goal.owner_of_code-owner-requires
owner_of_code-owner-requires c =
    let f = c.space-first.result in
    ap (λ (s : ZoneShape). s.guests) (c.shape-whole.ensures ∙ ap (λ (k : Counts). shape_at k f) c.requires.layout ∙ shape_is c.args.plan.now f)

pub returns : goal.returns
returns c =
    let t = c.args.plan.now in
    let z = c.args.zone in
    let f = c.space-first.result in
    let whole = c.shape-whole.ensures ∙ ap (λ (k : Counts). shape_at k f) c.requires.layout ∙ shape_is t f in
    let shape = c.shape-shape.ensures ∙ ap (λ (k : Counts). shape_at k z) c.requires.layout ∙ shape_is t z in
    c.state_in.ensures
    ∙ ap₂ (λ (s : ZoneShape) n. state_in s c.owner_of_code-owner.result (c.args.code / n)) shape (c.owner_values-2.ensures.values ∙ ap owner_values shape)
    ∙ ap (λ (o : Option ℕ). state_in (zone_shape t z) o (c.args.code / owner_values (zone_shape t z)))
    (c.owner_of_code-owner.ensures ∙ ap (λ n. owner_of_code t f (c.args.first_code % n)) (c.owner_values.ensures.values ∙ ap owner_values whole) ∙ ap (λ n. owner_in t n c.args.first_code) c.space-first.ensures)
