use Rattle.std.proofs.Common.{◌≡◌, take}
use Rattle.plan_document.specs.Names.{space_names}
use Rattle.plan_document.proofs.tables.add_space_names.Given as goal

abbrev pub invariant-loop-i : goal.invariant-loop-i
invariant-loop-i l = l.names ≡ space_names (take l.i l.zones)
