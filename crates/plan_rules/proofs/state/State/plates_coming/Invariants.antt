use Rattle.std.proofs.Common.{◌≡◌, ◌≤◌}
use Rattle.plan_types.specs.Below.{sum_below}
use Rattle.plan_rules.specs.State as states
use Rattle.plan_rules.proofs.state.State.plates_coming.Given as goal

abbrev pub invariant-loop-zone : goal.invariant-loop-zone
invariant-loop-zone l = (l.coming ≡ sum_below (λ z. states.one_if (states.is_coming l.plan (states.zone_at l.self z) l.place z)) l.zone) × (l.coming ≤ l.zone)
