use Rattle.std.proofs.Common.{◌≡◌, map, take}
use Rattle.plan_document.proofs.copying.copies.Given as goal

abbrev pub invariant-rows : goal.invariant-rows
invariant-rows g l = map g.R.RowCopy.texts l.copies.items ≡ map g.R.RowCopy.texts (take l.i l.rows)
