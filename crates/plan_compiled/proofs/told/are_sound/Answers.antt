use Rattle.std.proofs.Common.{◌≡◌, ◌/◌, ◌%◌, ◌<◌, ◌^◌, [], get_or, sym, ap, ap₂, ◌∙◌, subst, add-one, arith}
use Rattle.std.proofs.lemmas.Nat.{shr-shr}
use Rattle.plan_types.specs.Table.{zone_count}
use Rattle.plan_word.proofs.lemmas.Shapes.{bits_at, ends}
use Rattle.plan_compiled.specs.declared.told.Ends.{Ends}
use Rattle.plan_compiled.specs.Ends.{IsEnd, code_at}
use Rattle.plan_compiled.proofs.StateTold.{none_taken, one_more, not_barred}
use Rattle.plan_compiled.proofs.told.are_sound.Goals as goal

pub loop-zone-init : goal.loop-zone-init
loop-zone-init c = record {
  rest = omega arith;
  taken = none_taken c.args.plan.now c.args.word c.args.places c.requires.plan c.requires.below c.requires.places;
}

pub lowest-requires : goal.lowest-requires
lowest-requires c =
    let t = c.args.plan.now in
    let n = c.loop-zone.zone in
    let there : n < zone_count t = omega (arith, c.loop-zone-test.true, c.from-zone-end.ensures, c.zone_count.ensures.count) in
    let none : Ends = record { bits = 0; ends = [] } in
    c.requires.table.few n none there

pub loop-zone-preserved : goal.loop-zone-preserved
loop-zone-preserved c =
    let t = c.args.plan.now in
    let w = c.args.word in
    let n = c.loop-zone.zone in
    let rest = c.loop-zone.rest in
    let rest_is = c.loop-zone.invariant.rest in
    let there : n < zone_count t = omega (arith, c.loop-zone-test.true, c.from-zone-end.ensures, c.zone_count.ensures.count) in
    let none : Ends = record { bits = 0; ends = [] } in
    let row : Ends = get_or c.args.table.now n none in
    let e = get_or row.ends c.lowest.result 0 in
    let free : e / 2 ^ 31 % 2 ≡ 0 = not_barred c.loop-zone.taken e c.loop-zone.invariant.taken.barred c.if-taken-end-ne0.false in
    let plain = (c.requires.table.ends n none there c.lowest.result c.lowest.ensures.few).plain free in
    let bits : row.bits ≡ bits_at t n = c.requires.table.bits n none there plain in
    let code : code_at t w n ≡ rest % 2 ^ row.bits = ap₂ (λ x k. x % 2 ^ k) (sym rest_is) (sym bits) in
    let is : c.lowest.result ≡ rest % 2 ^ row.bits = c.lowest.ensures.value in
    let at : c.lowest.result ≡ code_at t w n = is ∙ sym code in
    let end = subst (λ k. IsEnd t n k e) at (c.requires.table.ends n none there c.lowest.result c.lowest.ensures.few) in
    record {
      rest = ap₂ (λ x k. x / 2 ^ k) rest_is bits ∙ shr-shr w (ends t n) (bits_at t n) ∙ ap (λ k. w / 2 ^ ends t k) (sym (add-one n));
      taken = one_more t w n c.loop-zone.taken e c.requires.plan c.loop-zone.invariant.taken end c.if-taken-end-ne0.false;
    }
