use Rattle.std.proofs.Common.{◌<◌, ◌^◌, Some, sym, ◌∙◌, subst}
use Rattle.plan_types.specs.Table.{owner_bits, zone_shape}
use Rattle.plan_word.proofs.lemmas.Guests.{owner_part_fits}
use Rattle.plan_motors.proofs.lemmas.Masking.{held_code}
use Rattle.plan_motors.proofs.mask.owner_part.Goals as goal

pub returns-clause-fits : goal.returns-clause-fits
returns-clause-fits c =
    let t = c.args.plan.now in
    let z = c.args.zone in
    subst (λ n. n < 2 ^ owner_bits (zone_shape t z).guests) (sym (c.zone_code.ensures.code ∙ held_code t z c.args.machine)) (owner_part_fits t z (Some c.args.machine))
