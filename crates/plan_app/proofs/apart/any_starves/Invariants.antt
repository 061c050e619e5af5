use Rattle.std.proofs.Common.{◌≡◌}
use Rattle.plan_types.specs.Below.{any_below}
use Rattle.plan_app.specs.Apart as spec
use Rattle.plan_app.proofs.apart.any_starves.Given as goal

abbrev pub invariant-loop-machine : goal.invariant-loop-machine
invariant-loop-machine l =
    l.any ≡ any_below (spec.own_starves (spec.group_of l.own.groups.now l.own.first) l.own.answers.now) l.machine
