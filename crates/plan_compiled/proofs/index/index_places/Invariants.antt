use Rattle.std.specs.List.{All}
use Rattle.plan_compiled.specs.Rows.{IsRight}
use Rattle.plan_compiled.proofs.index.index_places.Given as goal

abbrev pub invariant-loop-place : goal.invariant-loop-place
invariant-loop-place l = All (IsRight l.plan) l.index.rows
