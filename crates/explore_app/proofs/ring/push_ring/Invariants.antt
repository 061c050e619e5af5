use Rattle.std.proofs.Common.{◌≡◌, ◌++◌, take, string_bytes}
use Rattle.std.specs.List.{flat_map}
use Rattle.cell_rules.specs.Types.{all_machines}
use Rattle.explore_app.specs.Rings.{ring_line}
use Rattle.explore_app.proofs.ring.push_ring.Given as goal

abbrev pub invariant-machines : goal.invariant-machines
invariant-machines l = string_bytes l.text ≡ string_bytes l.initial.text ++ flat_map (ring_line l.ending l.walk) (take l.machine-index all_machines)
