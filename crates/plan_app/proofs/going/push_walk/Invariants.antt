use Rattle.std.proofs.Common.{◌≡◌, ◌++◌, string_bytes, drop, None}
use Rattle.plan_app.specs.Going.{walk_text}
use Rattle.plan_app.proofs.going.push_walk.Given as goal

abbrev pub invariant-turners : goal.invariant-turners
invariant-turners l =
    string_bytes l.text
    ++ walk_text l.plan.named.now l.plan.programs.now l.machine l.at l.last (drop l.turner-index l.turns)
    ≡ string_bytes l.initial.text ++ walk_text l.plan.named.now l.plan.programs.now l.machine l.initial.at None l.turns
