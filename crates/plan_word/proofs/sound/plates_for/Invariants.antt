use Rattle.std.proofs.Common.{◌≡◌, ◌+◌, ◌≤◌}
use Rattle.plan_types.specs.Below.{sum_below}
use Rattle.plan_rules.specs.State as states
use Rattle.plan_word.proofs.sound.plates_for.Given as goal

abbrev pub invariant-loop-zone : goal.invariant-loop-zone
invariant-loop-zone l = record {
  plates : l.plates ≡ states.one_if (states.is_full l.state l.place) + sum_below (λ z. states.one_if (states.is_coming l.plan (states.zone_at l.state z) l.place z)) l.zone;
  few : l.plates ≤ l.zone + 1;
}
