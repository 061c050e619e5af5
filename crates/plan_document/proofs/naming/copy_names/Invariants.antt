use Rattle.std.proofs.Common.{◌≡◌, take}
use Rattle.plan_document.proofs.naming.copy_names.Given as goal

abbrev pub invariant-names : goal.invariant-names
invariant-names l = l.copies ≡ take l.number l.names
