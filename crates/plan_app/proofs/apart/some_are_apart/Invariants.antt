use Rattle.std.proofs.Common.{◌≡◌}
use Rattle.plan_types.specs.Below.{any_below}
use Rattle.plan_app.specs.Apart as spec
use Rattle.plan_app.proofs.apart.some_are_apart.Given as goal

abbrev pub invariant-loop-machine : goal.invariant-loop-machine
invariant-loop-machine l = l.any ≡ any_below (spec.is_apart l.groups l.programs) l.machine
