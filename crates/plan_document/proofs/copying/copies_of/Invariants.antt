use Rattle.std.proofs.Common.{◌≡◌, map, take}
use Rattle.plan_document.specs.OnWord.{picked}
use Rattle.plan_document.proofs.copying.copies_of.Given as goal

abbrev pub invariant-numbers : goal.invariant-numbers
invariant-numbers g l = map g.R.RowCopy.texts l.copies.items ≡ picked (map g.R.RowCopy.texts l.rows) (take l.i l.numbers)
