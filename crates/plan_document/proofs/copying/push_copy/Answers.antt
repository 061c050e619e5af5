use Rattle.plan_document.proofs.Parted.{copy_more, copy_past}
use Rattle.plan_document.proofs.copying.push_copy.Goals as goal

pub returns-in_ok-push : goal.returns-in_ok-push
returns-in_ok-push g c = copy_more g.R.RowCopy.texts c.args.copies.now.items c.push.new.self.items c.args.rows.now c.args.number c.in_ok-copied.copied c.index-rows-number.result c.if-number-rows.true c.index-rows-number.is c.in_ok-copied.ensures c.in_ok-push.ensures.items

pub returns-else-number-rows : goal.returns-else-number-rows
returns-else-number-rows g c = copy_past g.R.RowCopy.texts c.args.copies.now.items c.args.rows.now c.args.number c.if-number-rows.false
