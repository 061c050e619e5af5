use Rattle.std.proofs.Common.{◌≡◌, take}
use Rattle.plan_types.specs.Table.{whole_table}
use Rattle.plan_types.proofs.sheet.push_places.Given as goal

abbrev pub invariant-loop-place : goal.invariant-loop-place
invariant-loop-place l =
    l.sheet ≡ whole_table l.fn.sheet.machines l.fn.sheet.zones l.fn.sheet.poses (take l.place-index l.places)
