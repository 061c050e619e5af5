use Rattle.std.proofs.Common.{◌≡◌}
use Rattle.interlock_tests.proofs.interlock.ring.go_round.Given as goal

abbrev pub invariant-loop-round : goal.invariant-loop-round
invariant-loop-round g l = l.pass.table ≡ l.interlock.table
