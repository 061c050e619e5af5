use Rattle.std.proofs.Common.{◌≡◌, ◌≤◌}
use mir.Val.{bool_byte}
use Rattle.plan_types.specs.Below.{sum_below}
use Rattle.plan_types.specs.Table.{joined_to}
use Rattle.plan_types.proofs.sheet.Sheet.joiner_count.Given as goal

abbrev pub invariant-loop-zone : goal.invariant-loop-zone
invariant-loop-zone l = record {
  count : l.count ≡ sum_below (λ y. bool_byte (joined_to l.self l.first y)) l.zone;
  few : l.count ≤ l.zone;
}
