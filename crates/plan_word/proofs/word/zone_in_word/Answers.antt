use Rattle.std.proofs.Common.{nat_lt, ap, ◌∙◌, arith, rules}
use Rattle.std.proofs.lemmas.Bool.{lt-ltb}
use Rattle.plan_types.specs.Table.{zone_count, space_of}
use Rattle.plan_rules.proofs.lemmas.Spaces.{first_inside}
use Rattle.plan_word.specs.Layout.{Counts}
use Rattle.plan_word.proofs.Seen.{zone_in}
use Rattle.plan_word.proofs.word.zone_in_word.Goals as goal

pub returns-then-zone-zone_count-clause-bits : goal.returns-then-zone-zone_count-clause-bits
returns-then-zone-zone_count-clause-bits c = search rules

pub returns-then-zone-zone_count-clause-state : goal.returns-then-zone-zone_count-clause-state
returns-then-zone-zone_count-clause-state c =
    returns-then-zone-zone_count-clause-bits c ∙ zone_in c.args.plan.now c.args.word c.args.zone (omega (arith, c.zone_count.ensures.count, c.zone_count.ensures.few))

pub returns-else-zone-zone_count-clause-bits : goal.returns-else-zone-zone_count-clause-bits
returns-else-zone-zone_count-clause-bits c = search rules

pub returns-else-zone-zone_count-clause-state : goal.returns-else-zone-zone_count-clause-state
returns-else-zone-zone_count-clause-state c =
    returns-else-zone-zone_count-clause-bits c ∙ zone_in c.args.plan.now c.args.word c.args.zone (omega (arith, c.zone_count.ensures.count, c.zone_count.ensures.few))

pub value_in-first_code-requires : goal.value_in-first_code-requires
value_in-first_code-requires c =
    let t = c.args.plan.now in
    let inside = first_inside t c.args.zone (omega (arith, c.zone_count.ensures.count, c.if-zone-zone_count.true)) in
    ap (λ (k : Counts). nat_lt c.space.result k.zones) c.requires ∙ ap (λ n. nat_lt n (zone_count t)) c.space.ensures ∙ lt-ltb (space_of t c.args.zone) (zone_count t) inside
