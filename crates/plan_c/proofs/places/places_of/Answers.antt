use Rattle.std.proofs.Common.{◌∙◌, ◌<◌, length, false, arith, rules}
use Rattle.std.proofs.lemmas.List.{length-set}
use Rattle.std.proofs.lemmas.List.Edits.{fill_by_more}
use Rattle.std.proofs.lemmas.List.FromFn.{fill_by_all}
use Rattle.plan_c.specs.Starts.{is_full_in}
use Rattle.plan_c.proofs.places.places_of.Goals as goal

pub loop-place-preserved : goal.loop-place-preserved
loop-place-preserved c =
    let f = is_full_in c.args.digits.now in
    let full = c.loop-place.full in
    let i = c.loop-place.place in
    let sixteen = c.loop-place.invariant.0 in
    let inside : i < length full = omega (arith, sixteen, c.loop-place-test.true) in
    rw c.is_full.ensures
    (length-set full i (f i) ∙ sixteen, fill_by_more f full i false inside c.loop-place.invariant.1)

pub returns : goal.returns
returns c =
    fill_by_all (is_full_in c.args.digits.now) c.loop-place.full 16 false c.loop-place.invariant.0 (search rules)
