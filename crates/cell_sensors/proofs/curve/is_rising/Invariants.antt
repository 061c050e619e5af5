use Rattle.std.proofs.Common.{◌<◌, ◌+◌, ℕ}
use Rattle.cell_sensors.specs.Curve.{raw_at}
use Rattle.cell_sensors.proofs.curve.is_rising.Given as goal

abbrev pub invariant-steps : goal.invariant-steps
invariant-steps l = (k : ℕ) → k < l.i → raw_at l.pairs k < raw_at l.pairs (k + 1)
