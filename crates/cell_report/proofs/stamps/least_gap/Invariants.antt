use Rattle.std.proofs.Common.{◌≡◌, drop}
use Rattle.cell_report.proofs.Times.{gap_after}
use Rattle.cell_report.proofs.stamps.least_gap.Given as goal

abbrev pub invariant-loop-stamp : goal.invariant-loop-stamp
invariant-loop-stamp l = gap_after l.last l.top (drop l.stamp-index l.stamps) ≡ gap_after l.start l.top l.stamps
