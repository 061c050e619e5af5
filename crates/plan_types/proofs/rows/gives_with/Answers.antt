use Rattle.std.proofs.Common.{◌≡◌, ◌<◌, length, get_or, map, Some, None, refl, sym, ◌∙◌, ap, arith}
use Rattle.std.proofs.lemmas.List.{get_or-map, length-map}
use Rattle.plan_types.specs.Bytes.{posture_byte}
use Rattle.plan_types.proofs.Same.{same_gives, gives_row, no_some}
use Rattle.plan_types.proofs.rows.gives_with.Goals as goal

pub returns-in_err-gives : goal.returns-in_err-gives
returns-in_err-gives c = rw c.from_residual.ensures (λ gives. (
  λ some. absurd (no_some None gives refl some),
  λ told.
      let at = c.loop-zone.zone in
      let long : length (map posture_byte gives) ≡ length c.args.row = ap length told in
      let inside : at < length gives = omega (arith, long, length-map gives posture_byte, c.loop-zone-test.true) in
      let here : posture_byte (get_or gives at None) ≡ get_or c.args.row at 0 =
      sym (get_or-map posture_byte gives at None 0 inside) ∙ ap (λ xs. get_or xs at 0) told in
      absurd (no_some c.posture_with.result (get_or gives at None) c.in_err-gives.was
      ((c.posture_with.ensures (get_or gives at None)).1 here)),
))

pub returns : goal.returns
returns c =
    let gives = c.loop-zone.gives in
    let told : map posture_byte gives ≡ c.args.row =
    gives_row gives c.args.row (omega arith) (λ k below. c.loop-zone.invariant.1 k (omega arith)) in
    λ others. (
      λ some. let same : others ≡ gives = cc in ap (map posture_byte) same ∙ told,
      λ e. ap (λ x. Some x) (same_gives gives others (told ∙ sym e)),
    )
