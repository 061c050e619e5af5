use Rattle.toml.specs.View.{view}
use Rattle.plan_document.proofs.Growing.{mapped_all, mapped_more}
use Rattle.plan_document.proofs.row_kinds.rows_in.Goals as goal

pub rows-preserved : goal.rows-preserved
rows-preserved g c =
    mapped_more view g.K.RowKind.is_in c.args.values.now c.rows.i c.index-values-i.result c.rows.rows.items c.push.new.self.items c.in_ok-row.row c.rows-test.true c.index-values-i.is c.rows.invariant c.in_ok-row.ensures c.in_ok-push.ensures.items

pub returns : goal.returns
returns g c = mapped_all view g.K.RowKind.is_in c.args.values.now c.rows.i c.rows.rows.items c.rows-test.false c.rows.invariant
