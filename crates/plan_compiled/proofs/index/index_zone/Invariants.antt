use Rattle.std.specs.List.{All}
use Rattle.plan_compiled.specs.Rows.{IsRight}
use Rattle.plan_compiled.proofs.index.index_zone.Given as goal

abbrev pub invariant-loop-number : goal.invariant-loop-number
invariant-loop-number l = All (IsRight l.plan) l.index.rows
