use Rattle.std.proofs.Common.{◌≡◌}
use Rattle.plan_types.specs.Below.{any_below}
use Rattle.plan_app.specs.Apart as spec
use Rattle.plan_app.proofs.apart.some_move_plates.Given as goal

abbrev pub invariant-loop-machine : goal.invariant-loop-machine
invariant-loop-machine l = l.any ≡ any_below (spec.moves_plates l.programs) l.machine
