use Rattle.std.proofs.Common.{◌≡◌, take}
use Rattle.plan_types.specs.Table.{whole_table}
use Rattle.plan_types.proofs.sheet.push_zones.Given as goal

abbrev pub invariant-loop-zone : goal.invariant-loop-zone
invariant-loop-zone l =
    l.sheet ≡ whole_table l.fn.sheet.machines (take l.zone-index l.zones) l.fn.sheet.poses l.fn.sheet.places
