use Rattle.std.proofs.Common.{◌≡◌}
use Rattle.plan_types.specs.Below.{any_below}
use Rattle.plan_compiled.specs.Needs.{opens_to}
use Rattle.plan_compiled.proofs.needs.is_end_of_opened.Given as goal

abbrev pub invariant-loop-zone : goal.invariant-loop-zone
invariant-loop-zone l = l.ends ≡ any_below (opens_to l.plan l.pose l.place) l.zone
