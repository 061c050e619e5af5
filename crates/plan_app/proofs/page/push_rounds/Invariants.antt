use Rattle.std.proofs.Common.{◌≡◌, ◌++◌}
use Rattle.plan_app.specs.Pages.{repeated}
use Rattle.plan_app.proofs.page.push_rounds.Given as goal

abbrev pub invariant-rounds : goal.invariant-rounds
invariant-rounds l = l.events.items ≡ l.initial.events.items ++ repeated l._round l.cycle
