use Rattle.std.proofs.Common.{rules, false}
use Rattle.std.proofs.lemmas.List.FromFn.{fill_by_all}
use Rattle.plan_word.specs.Reading.{place_told}
use Rattle.plan_word.proofs.word.places_in_word.Goals as goal

pub returns : goal.returns
returns c = fill_by_all (place_told c.args.plan.now c.args.word) c.loop-place.places 16 false c.loop-place.invariant.0 (search rules)
