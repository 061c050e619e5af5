use Rattle.std.proofs.Common.{◌≡◌}
use Rattle.plan_types.specs.Below.{any_below}
use Rattle.plan_types.specs.Table.{joins}
use Rattle.plan_app.proofs.page.any_joins.Given as goal

abbrev pub invariant-loop-zone : goal.invariant-loop-zone
invariant-loop-zone l = l.any ≡ any_below (joins l.plan) l.zone
