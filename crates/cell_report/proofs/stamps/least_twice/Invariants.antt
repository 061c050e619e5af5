use Rattle.std.proofs.Common.{◌≡◌, None, drop}
use Rattle.cell_report.proofs.Times.{twice_after}
use Rattle.cell_report.proofs.stamps.least_twice.Given as goal

abbrev pub invariant-loop-stamp : goal.invariant-loop-stamp
invariant-loop-stamp l = twice_after l.last (drop l.stamp-index l.stamps) ≡ twice_after None l.stamps
