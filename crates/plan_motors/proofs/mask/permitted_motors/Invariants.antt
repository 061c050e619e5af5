use Rattle.std.proofs.Common.{◌≡◌, ◌*◌, ◌<◌, ◌^◌}
use Rattle.plan_types.specs.Below.{sum_below}
use Rattle.plan_rules.specs.State.{one_if}
use Rattle.plan_motors.specs.Mask.{allows, mask_at}
use Rattle.plan_motors.proofs.mask.permitted_motors.Given as goal

abbrev pub invariant-loop-number : goal.invariant-loop-number
invariant-loop-number l = record {
  bits : l.permitted ≡ sum_below (λ k. one_if (allows (mask_at l.several k) l.word) * 2 ^ k) l.number;
  below : l.permitted < 2 ^ l.number;
}
