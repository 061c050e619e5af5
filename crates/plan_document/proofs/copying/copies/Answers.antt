use Rattle.plan_document.proofs.Parted.{made_all, made_more}
use Rattle.plan_document.proofs.copying.copies.Goals as goal

pub rows-preserved : goal.rows-preserved
rows-preserved g c =
    made_more g.R.RowCopy.texts g.R.RowCopy.texts c.args.rows.now c.rows.i c.index-rows-i.result c.rows.copies.items c.push.new.self.items c.in_ok-copied.copied c.rows-test.true c.index-rows-i.is c.in_ok-copied.ensures c.in_ok-push.ensures.items c.rows.invariant

pub returns : goal.returns
returns g c = made_all g.R.RowCopy.texts g.R.RowCopy.texts c.args.rows.now c.rows.i c.rows.copies.items c.rows-test.false c.rows.invariant
