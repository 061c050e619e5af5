use Rattle.std.proofs.Common.{◌≡◌}
use Rattle.plan_types.specs.Below.{any_below}
use Rattle.plan_app.specs.Apart as spec
use Rattle.plan_app.proofs.apart.is_apart.Given as goal

abbrev pub invariant-loop-other : goal.invariant-loop-other
invariant-loop-other l = l.any ≡ any_below (spec.are_apart l.groups l.programs l.machine) l.other
