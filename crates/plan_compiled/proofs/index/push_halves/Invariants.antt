use Rattle.std.specs.List.{All}
use Rattle.plan_compiled.specs.Rows.{IsRight}
use Rattle.plan_compiled.proofs.index.push_halves.Given as goal

abbrev pub invariant-loop-picks : goal.invariant-loop-picks
invariant-loop-picks l = All (IsRight l.plan) l.index.rows
