use Rattle.std.proofs.Common.{◌≡◌, ◌++◌, map, take, string_bytes}
use Rattle.plan_document.specs.Names.{AreDistinct, identifier}
use Rattle.plan_document.proofs.sensors.add_identifiers.Given as goal

abbrev pub invariant-loop-item : goal.invariant-loop-item
invariant-loop-item l = record {
  names : map string_bytes l.taken.items
      ≡ map string_bytes l.initial.taken.items
      ++ map (λ name. identifier (string_bytes l.row.name) (string_bytes name)) (take l.item l.row.sensors.items);
  distinct : AreDistinct (map string_bytes l.initial.taken.items) → AreDistinct (map string_bytes l.taken.items);
}
