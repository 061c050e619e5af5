use Rattle.std.proofs.Common.{◌≡◌, take}
use Rattle.plan_document.specs.OnWord.{picked}
use Rattle.plan_document.proofs.naming.pick_names.Given as goal

abbrev pub invariant-numbers : goal.invariant-numbers
invariant-numbers l = l.copies ≡ picked l.names (take l.i l.numbers)
