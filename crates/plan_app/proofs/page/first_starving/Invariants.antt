use Rattle.std.proofs.Common.{◌≡◌}
use Rattle.plan_types.specs.Below.{first_below}
use Rattle.plan_app.specs.Pages.{starving_at}
use Rattle.plan_app.proofs.page.first_starving.Given as goal

abbrev pub invariant-loop-machine : goal.invariant-loop-machine
invariant-loop-machine l = l.first ≡ first_below (starving_at l.answers) l.machine
