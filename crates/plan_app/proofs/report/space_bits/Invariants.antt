use Rattle.std.proofs.Common.{◌≡◌, ◌*◌, ◌≤◌}
use Rattle.plan_types.specs.Below.{sum_below}
use Rattle.plan_app.specs.Reports.{bits_near}
use Rattle.plan_app.proofs.report.space_bits.Given as goal

abbrev pub invariant-loop-other : goal.invariant-loop-other
invariant-loop-other l = record {
  count : l.count ≡ sum_below (bits_near l.named.plan l.zone) l.other;
  below : l.count ≤ 20 * l.other;
}
