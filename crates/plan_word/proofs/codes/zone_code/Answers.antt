use Rattle.std.proofs.Common.{◌+◌, ◌*◌, ap, ap₂, ◌∙◌, arith}
use Rattle.plan_types.specs.declared.shape.ZoneShape.{ZoneShape}
use Rattle.plan_word.specs.Layout.{Counts, shape_at}
use Rattle.plan_word.specs.Packed.{owner_values, owner_part, code_in}
use Rattle.plan_word.proofs.lemmas.Guests.{owner_part_few}
use Rattle.plan_word.proofs.lemmas.LaidOut.{zone_in_field}
use Rattle.plan_word.proofs.lemmas.Shapes.{shape_is}
use Rattle.plan_word.proofs.codes.zone_code.Goals as goal

pub owner_part-requires : goal.owner_part-requires
owner_part-requires c =
    let shape = c.shape-shape.ensures ∙ ap (λ (k : Counts). shape_at k c.args.zone) c.requires.layout ∙ shape_is c.args.plan.now c.args.zone in
    ap (λ (s : ZoneShape). s.guests) shape

pub returns-clause-code : goal.returns-clause-code
returns-clause-code c =
    let shape = c.shape-shape.ensures ∙ ap (λ (k : Counts). shape_at k c.args.zone) c.requires.layout ∙ shape_is c.args.plan.now c.args.zone in
    ap₂ (λ a b. a + b) (c.above_owner-rest.ensures.above ∙ ap (λ n. n * owner_values c.shape-shape.result) c.rest_in.ensures.rest) c.owner_part.ensures
    ∙ ap (λ (s : ZoneShape). code_in s (owner_part c.args.plan.now c.args.zone c.args.at.owner) c.args.at) shape

pub returns-clause-fits : goal.returns-clause-fits
returns-clause-fits c =
    rw (returns-clause-code c, c.requires.layout) (zone_in_field c.args.plan.now c.args.zone c.args.at)

pub overflow_add-result : goal.overflow_add-result
overflow_add-result c =
    let few = owner_part_few c.args.plan.now c.args.zone c.args.at.owner in
    omega (arith, few, c.owner_part.ensures, c.above_owner-rest.ensures.few)
