use Rattle.std.proofs.Common.{◌≡◌, ◌≤◌, nat_lt}
use Rattle.plan_types.specs.Below.{sum_below}
use Rattle.plan_rules.specs.State.{one_if}
use Rattle.plan_picture.specs.Scenes.{owner_of}
use Rattle.plan_picture.proofs.positions.owned_before.Given as goal

abbrev pub invariant-things : goal.invariant-things
invariant-things l = record {
  count : l.count ≡ sum_below (λ thing. one_if (nat_lt (owner_of l.shown thing) l.machine)) l.thing;
  below : l.count ≤ l.thing;
}
