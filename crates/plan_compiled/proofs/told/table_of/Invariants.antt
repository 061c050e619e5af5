use Rattle.std.proofs.Common.{◌≡◌, length}
use Rattle.plan_compiled.proofs.StateTold.{AreEndsBelow}
use Rattle.plan_compiled.proofs.told.table_of.Given as goal

abbrev pub invariant-loop-zone : goal.invariant-loop-zone
invariant-loop-zone l = record {
  all : length l.table ≡ 10;
  ends : AreEndsBelow l.plan l.zone l.table;
}
