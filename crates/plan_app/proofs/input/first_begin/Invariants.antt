use Rattle.std.proofs.Common.{◌≡◌}
use Rattle.plan_types.specs.Below.{first_below}
use Rattle.plan_app.specs.Input.{begin_at}
use Rattle.plan_app.proofs.input.first_begin.Given as goal

abbrev pub invariant-loop-at : goal.invariant-loop-at
invariant-loop-at l = l.first ≡ first_below (begin_at l.bytes) l.at
