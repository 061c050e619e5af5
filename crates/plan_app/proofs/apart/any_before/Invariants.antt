use Rattle.std.proofs.Common.{◌≡◌}
use Rattle.plan_types.specs.Below.{any_below}
use Rattle.plan_app.specs.Apart as spec
use Rattle.plan_app.proofs.apart.any_before.Given as goal

abbrev pub invariant-loop-other : goal.invariant-loop-other
invariant-loop-other l = l.any ≡ any_below (spec.group_of l.groups l.machine) l.other
