use Rattle.std.proofs.Common.{◌≡◌, ◌++◌, drop, None}
use Rattle.plan_app.specs.Pages as spec
use Rattle.plan_app.proofs.page.watched_events.Given as goal

abbrev pub invariant-turners : goal.invariant-turners
invariant-turners l =
    l.events.items ++ spec.watched_events l.plan.named.now l.plan.programs.now l.who l.at l.last (drop l.turner-index l.turns)
    ≡ spec.watched_events l.plan.named.now l.plan.programs.now l.who l.fn.start None l.turns
