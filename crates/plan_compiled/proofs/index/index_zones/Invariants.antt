use Rattle.std.specs.List.{All}
use Rattle.plan_compiled.specs.Rows.{IsRight}
use Rattle.plan_compiled.proofs.index.index_zones.Given as goal

abbrev pub invariant-loop-zone : goal.invariant-loop-zone
invariant-loop-zone l = All (IsRight l.plan) l.index.rows
