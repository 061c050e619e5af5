use Rattle.std.proofs.Common.{◌∙◌, ◌<◌, ℕ, Bool, Option, None, false, get_or, length, arith}
use Rattle.std.proofs.lemmas.List.{length-set}
use Rattle.std.proofs.lemmas.List.Edits.{fill_by_more}
use Rattle.plan_document.specs.Motors.{full_or_empty}
use Rattle.plan_document.proofs.motors.place_needs_by.Goals as goal

pub loop-place-preserved : goal.loop-place-preserved
loop-place-preserved c =
    let f : ℕ → Option Bool = λ k. full_or_empty (get_or c.args.full k false) (get_or c.args.empty k false) in
    let needs = c.loop-place.needs in
    let i = c.loop-place.place in
    let count = c.loop-place.invariant.0 in
    let inside : i < length needs = omega (arith, count, c.loop-place-test.true) in
    rw c.need_of_place.ensures (length-set needs i (f i) ∙ count, fill_by_more f needs i None inside c.loop-place.invariant.1)

pub returns : goal.returns
returns c = λ place small. c.loop-place.invariant.1 place (omega (arith, small, c.loop-place-test.false))
