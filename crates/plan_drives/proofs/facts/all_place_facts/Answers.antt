use Rattle.std.proofs.Common.{◌∙◌, ◌<◌, length, arith, rules}
use Rattle.std.proofs.lemmas.List.{length-set}
use Rattle.std.proofs.lemmas.List.Edits.{fill_by_more}
use Rattle.std.proofs.lemmas.List.FromFn.{fill_by_all}
use Rattle.std.proofs.Common.{None}
use Rattle.plan_drives.specs.Facts.{place_facts}
use Rattle.plan_drives.proofs.facts.all_place_facts.Goals as goal

pub loop-place-preserved : goal.loop-place-preserved
loop-place-preserved c =
    let f = place_facts c.args.plan.now c.args.known.now c.args.call in
    let places = c.loop-place.places in
    let i = c.loop-place.place in
    let all = c.loop-place.invariant.0 in
    let inside : i < length places = omega (arith, all, c.loop-place-test.true) in
    rw c.place_facts.ensures (length-set places i (f i) ∙ all, fill_by_more f places i None inside c.loop-place.invariant.1)

pub returns : goal.returns
returns c = fill_by_all (place_facts c.args.plan.now c.args.known.now c.args.call) c.loop-place.places 16 None c.loop-place.invariant.0 (search rules)
