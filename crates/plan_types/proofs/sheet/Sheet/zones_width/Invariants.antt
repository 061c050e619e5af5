use Rattle.std.proofs.Common.{◌≡◌, ◌*◌, ◌≤◌}
use Rattle.plan_types.specs.Below.{sum_below}
use Rattle.plan_types.specs.Table.{zone_bits}
use Rattle.plan_types.proofs.sheet.Sheet.zones_width.Given as goal

abbrev pub invariant-loop-zone : goal.invariant-loop-zone
invariant-loop-zone l = record {
  width : l.width ≡ sum_below (zone_bits l.self) l.zone;
  few : l.width ≤ 7 * l.zone;
}
