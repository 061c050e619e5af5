use Rattle.std.proofs.Common.{◌≡◌, drop}
use Rattle.plan_explorer.specs.Situations.{first_situation, after_turns}
use Rattle.plan_app.proofs.going.end_of.Given as goal

abbrev pub invariant-turners : goal.invariant-turners
invariant-turners l =
    after_turns l.plan.named.now.plan l.plan.programs.now l.at (drop l.turner-index l.turns)
    ≡ after_turns l.plan.named.now.plan l.plan.programs.now (first_situation l.opening) l.turns
