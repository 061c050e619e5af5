use Rattle.std.proofs.Common.{◌≡◌}
use Rattle.plan_types.specs.Below.{any_below}
use Rattle.plan_rules.specs.Refusals as refusals
use Rattle.plan_rules.proofs.state.State.stands_anywhere.Given as goal

abbrev pub invariant-loop-zone : goal.invariant-loop-zone
invariant-loop-zone l = l.stands ≡ any_below (refusals.stands_at l.plan l.self l.machine) l.zone
