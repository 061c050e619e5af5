use Rattle.std.specs.List.{All}
use Rattle.plan_compiled.specs.Rows.{IsRight}
use Rattle.plan_compiled.proofs.index.index_of.Given as goal

abbrev pub invariant-loop-machine : goal.invariant-loop-machine
invariant-loop-machine l = All (IsRight l.plan) l.index.rows
