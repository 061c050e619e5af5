use Rattle.std.proofs.Common.{take}
use Rattle.std.specs.List.{AllZip}
use Rattle.plan_document.specs.Saying.{IsZoneOf}
use Rattle.plan_document.proofs.tables.add_zone_rows.Given as goal

abbrev pub invariant-loop-i : goal.invariant-loop-i
invariant-loop-i l = AllZip (IsZoneOf l.machines l.places) (take l.i l.zones) l.rows.items
