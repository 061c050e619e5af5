use Rattle.std.proofs.Common.{refl, sym, ap, ◌∙◌, subst, arith}
use Rattle.std.proofs.lemmas.Nat.{one_shl}
use Rattle.plan_types.specs.Table.{transfer_of}
use Rattle.plan_rules.specs.declared.state.ZoneState.{ZoneState}
use Rattle.plan_rules.specs.Sound.{IsLawfulZone}
use Rattle.plan_word.specs.Packed.{zone_code}
use Rattle.plan_compiled.proofs.StateTold.{end_at}
use Rattle.plan_compiled.proofs.told.end_of.Goals as goal

pub returns-in-Some : goal.returns-in-Some
returns-in-Some c =
    let t = c.args.plan.now in
    let z = c.args.zone in
    let is = c.zone_alone-at.ensures in
    let way = c.in-Some.way in
    let lawful = subst (IsLawfulZone t z) is (c.is_lawful_zone.ensures.0 c.if-not-is_lawful_zone.false) in
    let back = ap (zone_code t z) (sym is) ∙ sym c.zone_code.ensures.code ∙ c.if-zone_code-code.false in
    let leads = ap (λ (v : ZoneState). transfer_of t z v.posture) (sym is) ∙ sym c.transfer.ensures ∙ c.in-Some.is in
    end_at t z c.args.code way.to _ way c.requires.plain lawful back (ap (λ (v : ZoneState). v.flag) (sym is) ∙ c.if-at.true) leads refl (one_shl way.to 32 (omega arith))
