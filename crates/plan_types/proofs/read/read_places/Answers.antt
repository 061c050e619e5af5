use Rattle.std.proofs.Common.{◌≡◌, ◌++◌, ◌∷◌, [], map, length, All, sym, ap, ◌∙◌, subst, arith}
use Rattle.std.proofs.lemmas.List.{length-map, length-take, take_all}
use Rattle.plan_types.specs.Table.{PlanTable}
use Rattle.plan_types.specs.Bytes.{place_byte, IsNarrow}
use Rattle.plan_types.proofs.PlaceBytes.{bytes_more, narrow_more}
use Rattle.plan_types.proofs.read.read_places.Goals as goal

pub push_place-requires : goal.push_place-requires
push_place-requires c =
    let places = c.loop-byte.sheet.places in
    let n = c.loop-byte.byte-index in
    let long = ap length c.loop-byte.invariant.1 in
    omega (arith, c.requires.few, c.loop-byte-test.true, long, length-map places place_byte, length-take n c.args.bytes.now)

pub loop-byte-preserved : goal.loop-byte-preserved
loop-byte-preserved c =
    let old = c.loop-byte.sheet.places in
    let p = c.place_with.result in
    let is = c.push_place.ensures in
    let places : c.push_place.new.self.places ≡ old ++ p ∷ [] = ap (λ (t : PlanTable). t.places) is in
    let more = bytes_more old p c.args.bytes.now c.loop-byte.byte-index c.loop-byte-test.true c.loop-byte.invariant.1 c.place_with.ensures.byte in
    let narrow = narrow_more old p c.loop-byte.invariant.2 c.place_with.ensures.narrow in (
      grind (arith, is, c.loop-byte.invariant.0),
      ap (λ ps. map place_byte ps) places ∙ more,
      subst (λ ps. All IsNarrow ps) (sym places) narrow,
    )

pub returns-clause-bytes : goal.returns-clause-bytes
returns-clause-bytes c =
    c.loop-byte.invariant.1 ∙ take_all c.loop-byte.byte-index c.args.bytes.now (omega (arith, c.loop-byte-test.false))
