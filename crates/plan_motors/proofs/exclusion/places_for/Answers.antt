use Rattle.std.proofs.Common.{rules, false}
use Rattle.std.proofs.lemmas.List.FromFn.{fill_by_all}
use Rattle.plan_motors.specs.Exclusion.{place_in}
use Rattle.plan_motors.proofs.exclusion.places_for.Goals as goal

pub returns : goal.returns
returns c = fill_by_all (place_in c.args.plan.now c.args.first.now c.args.second.now) c.loop-place.places 16 false c.loop-place.invariant.0 (search rules)
