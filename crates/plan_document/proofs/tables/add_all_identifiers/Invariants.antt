use Rattle.std.proofs.Common.{◌≡◌, take}
use Rattle.plan_document.specs.Names.{AreDistinct, identifiers}
use Rattle.plan_document.proofs.tables.add_all_identifiers.Given as goal

abbrev pub invariant-loop-i : goal.invariant-loop-i
invariant-loop-i l = record { names : l.names ≡ identifiers (take l.i l.machines); distinct : AreDistinct l.names }
