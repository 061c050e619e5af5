use Rattle.std.proofs.Common.{◌≡◌, ◌++◌, flat_map, take}
use Rattle.plan_types.specs.Bytes.{zone_bytes}
use Rattle.plan_types.proofs.write.write_zones.Given as goal

abbrev pub invariant-loop-zone : goal.invariant-loop-zone
invariant-loop-zone l = l.out.items ≡ l.fn.out.items ++ flat_map zone_bytes (take l.zone l.plan.zones)
