use Rattle.std.proofs.Common.{◌<◌, ◌≤◌, ◌-◌, length}
use Rattle.cell_sensors.specs.Curve.{raw_at}
use Rattle.cell_sensors.proofs.curve.left_of.Given as goal

abbrev pub invariant-halves : goal.invariant-halves
invariant-halves l = record {
  apart : l.left < l.right;
  within : l.right ≤ length l.pairs - 1;
  from : raw_at l.pairs l.left ≤ l.raw;
  to : l.raw ≤ raw_at l.pairs l.right;
}

abbrev pub decreases-halves : goal.decreases-halves
decreases-halves l = l.right - l.left
